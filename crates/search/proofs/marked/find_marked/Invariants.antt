-- `search::marked::find_marked` meets its contract: the first i errors have their places and values.
-- Assumes nothing.
use Rattle.search.specs.Values.{exponents}
use Rattle.search.proofs.Laws.Solved.{Paired}
use Rattle.search.proofs.marked.find_marked.Given as goal

abbrev pub invariant-loop-i : goal.invariant-loop-i
invariant-loop-i l = Paired (exponents l.all.places) l.values l.errors l.i
