-- `search::marked::collect` meets its contract.
-- Assumes nothing.
use Rattle.search.proofs.Laws.Flags.{Collecting}
use Rattle.search.proofs.marked.collect.Given as goal

abbrev pub invariant-loop-i : goal.invariant-loop-i
invariant-loop-i l = Collecting l.flags l.places l.count l.i
