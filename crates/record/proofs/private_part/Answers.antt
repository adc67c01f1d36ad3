-- `record::private_part` meets its contract: of 248 bytes, the part is all that stands from the 108th on.
-- Assumes nothing.
use mathlib.Core.Path.{refl}
use Prim.Native.Nat.{◌-◌}
use native.Mathlib.Omega.{arith}
use lib.ListN.{length, drop, length-drop}
use lib.Seq.{take_all}
use borrow.Author.Tests.{eq-eqb}
use Rattle.record.specs.Record.{private_part, private_start}
use Rattle.record.proofs.private_part.Goals as goal

pub returns-then-bytes-eq248 : goal.returns-then-bytes-eq248
unfolding private_part private_start
returns-then-bytes-eq248 c =
    let bytes = c.args.bytes.now in
    simp (eq-eqb _ _ c.if-bytes-eq248.true) (take_all (length bytes - 107) (drop 107 bytes) (simp length-drop (omega arith)), refl)
