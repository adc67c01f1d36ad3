-- `rs::division::unpack` meets its contract.
-- Assumes nothing.
use native.Mathlib.Nat.{div-div-eq-div-mul}
use Rattle.rs.specs.Packed.{unpack}
use Rattle.rs.proofs.division.unpack.Goals as goal

pub returns : goal.returns
unfolding unpack
returns c = rw c.to_le_bytes.ensures (simp div-div-eq-div-mul)
