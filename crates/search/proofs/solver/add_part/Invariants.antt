-- `search::solver::add_part` meets its contract: a sum at a time.
-- Assumes nothing.
use Rattle.search.proofs.Laws.Held.{Adding}
use Rattle.search.proofs.solver.add_part.Given as goal

abbrev pub invariant-loop-sum : goal.invariant-loop-sum
invariant-loop-sum l = Adding l.x l.initial.part l.initial.sums l.sums l.part l.sum-index
