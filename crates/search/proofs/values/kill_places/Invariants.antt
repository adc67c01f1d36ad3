-- `search::values::kill_places` meets its contract: a place at a time.
-- Assumes nothing.
use Rattle.search.specs.Values.{exponents}
use Rattle.search.proofs.Laws.Values.{Killing}
use Rattle.search.proofs.values.kill_places.Given as goal

abbrev pub invariant-loop-i : goal.invariant-loop-i
invariant-loop-i l = Killing l.fn.marks.count (exponents l.fn.marks.places) l.initial.left l.firsts l.left l.i
