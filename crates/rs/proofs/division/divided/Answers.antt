-- `rs::division::divided` meets its contract: a turn of the state is the parity of the bytes so far.
-- Assumes nothing.
use mathlib.Core.Path.{ap, ap₂, ◌∙◌}
use mathlib.Core.List.{List}
use Prim.Native.Nat.{ℕ, ◌/◌, ◌%◌}
use native.Mathlib.Nat.{mod-lt}
use native.Mathlib.Omega.{arith}
use lib.Dec.{lit<}
use lib.Seq.{take_all}
use Rattle.gf256.specs.Field.{◌⊕◌}
use Rattle.rs.specs.Codeword.{divisor_bytes, parity_of}
use Rattle.rs.specs.Packed.{pack, turn}
use Rattle.rs.proofs.Laws.Packed.{divide-none, divide-more}
use Rattle.rs.proofs.division.divided.Goals as goal

pub loop-byte-init : goal.loop-byte-init
loop-byte-init c = divide-none

pub loop-byte-preserved : goal.loop-byte-preserved
unfolding ◌⊕◌
loop-byte-preserved c =
    let loop = c.loop-byte in
    let s : ℕ = loop.state in
    ap (turn divisor_bytes) (ap₂ ◌⊕◌ (ap (◌⊕◌ (s / 256)) c.from.ensures) (c.requires (s % 256) (mod-lt s (lit< tt))))
    ∙ divide-more c.args.bytes.now loop.byte-index s (omega arith) (c.type_inv.bytes loop.byte-index).fits loop.invariant

pub returns : goal.returns
unfolding ◌⊕◌ turn
returns c =
    let loop = c.loop-byte in
    let s : ℕ = loop.state in
    ap (◌⊕◌ (s / 256)) (c.requires (s % 256) (mod-lt s (lit< tt))) ∙ loop.invariant
    ∙ ap (λ (l : List ℕ). pack (parity_of l)) (take_all loop.byte-index c.args.bytes.now (omega arith))
