-- `rs::division::add_root` meets its contract: first the polynomial is scaled by 2^j, a doubling at a time, and then itself a power higher comes in,
-- a coefficient at a time.
-- Assumes nothing.
use mathlib.Core.Path.{◌≡◌}
use Rattle.gf256.specs.Field.{pow}
use Rattle.rs.specs.Polynomial.{scale}
use Rattle.rs.proofs.Laws.Polynomial.{Raised}
use Rattle.rs.proofs.division.add_root.Given as goal

abbrev pub invariant-loop : goal.invariant-loop
invariant-loop l = l.p ≡ scale (pow 2 l.counter) l.fn.p

abbrev pub invariant-loop-k : goal.invariant-loop-k
invariant-loop-k l = Raised l.higher l.initial.p l.p l.k
