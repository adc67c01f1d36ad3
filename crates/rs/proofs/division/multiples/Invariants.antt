-- `rs::division::multiples` meets its contract: after k turns the multiples below 2^k stand in the table.
-- Assumes nothing.
use Rattle.rs.proofs.Laws.Packed.{Filling}
use Rattle.rs.proofs.division.multiples.Given as goal

abbrev pub invariant-loop-k : goal.invariant-loop-k
invariant-loop-k l = Filling l.k l.initial.row l.row l.table
