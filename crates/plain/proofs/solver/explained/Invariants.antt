-- `plain::solver::explained` meets its contract: a sum at a time.
-- Assumes nothing.
use lib.ListN.{get_or}
use Rattle.plain.proofs.Laws.Judge.{Parts}
use Rattle.plain.proofs.solver.explained.Given as goal

abbrev pub invariant-loop-sum : goal.invariant-loop-sum
invariant-loop-sum l = Parts l.fn.s l.fn.errors l.x l.y l.z (get_or l.parts 0 0) (get_or l.parts 1 0) (get_or l.parts 2 0) l.sum-index
