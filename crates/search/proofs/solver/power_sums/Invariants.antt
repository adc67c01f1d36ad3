-- `search::solver::power_sums` meets its contract: an error at a time.
-- Assumes nothing.
use Rattle.search.proofs.Laws.Held.{Summing}
use Rattle.search.proofs.solver.power_sums.Given as goal

abbrev pub invariant-loop-e : goal.invariant-loop-e
invariant-loop-e l = Summing l.errors l.sums l.e-index
