-- `rs::division::double` meets its contract: a byte at a time.
-- Assumes nothing.
use mathlib.Core.Path.{◌≡◌}
use mathlib.Core.List.{◌++◌}
use lib.ListN.{take, drop}
use Rattle.rs.specs.Polynomial.{scale}
use Rattle.rs.proofs.division.double.Given as goal

abbrev pub invariant-loop-a : goal.invariant-loop-a
invariant-loop-a l = l.g ≡ scale 2 (take l.a-index l.initial.g) ++ drop l.a-index l.initial.g
