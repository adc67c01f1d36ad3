-- `search::solver::value` meets its contract: a byte at a time.
-- Assumes nothing.
use mathlib.Core.Path.{◌≡◌}
use lib.ListN.{take}
use Rattle.rs.specs.Polynomial.{value_at}
use Rattle.search.proofs.solver.value.Given as goal

abbrev pub invariant-loop-byte : goal.invariant-loop-byte
invariant-loop-byte l = l.v ≡ value_at l.x (take l.byte-index l.fn.bytes)
