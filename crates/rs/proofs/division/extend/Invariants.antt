-- `rs::division::extend` meets its contract: the first i entries stand again.
-- Assumes nothing.
use Rattle.rs.specs.Packed.{Extended}
use Rattle.rs.proofs.division.extend.Given as goal

abbrev pub invariant-loop-i : goal.invariant-loop-i
invariant-loop-i l = Extended l.size l.i l.row l.initial.table l.table
