-- `search::solver::sums` meets its contract: a sum at a time.
-- Assumes nothing.
use Rattle.rs.proofs.Laws.Polynomial.{Summed}
use Rattle.search.proofs.solver.sums.Given as goal

abbrev pub invariant-loop-j : goal.invariant-loop-j
invariant-loop-j l = Summed l.fn.bytes l.s l.j
