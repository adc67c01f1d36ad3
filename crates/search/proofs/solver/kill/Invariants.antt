-- `search::solver::kill` meets its contract: a sum at a time.
-- Assumes nothing.
use Rattle.search.proofs.Laws.Moment.{Leaving}
use Rattle.search.proofs.solver.kill.Given as goal

abbrev pub invariant-loop-j : goal.invariant-loop-j
invariant-loop-j l = Leaving l.x l.initial.s l.s l.j
