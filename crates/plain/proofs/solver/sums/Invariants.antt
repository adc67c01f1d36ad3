-- `plain::solver::sums` meets its contract: a sum at a time.
-- Assumes nothing.
use Rattle.rs.proofs.Laws.Polynomial.{Summed}
use Rattle.plain.proofs.solver.sums.Given as goal

abbrev pub invariant-loop-m : goal.invariant-loop-m
invariant-loop-m l = Summed l.block l.s l.m
