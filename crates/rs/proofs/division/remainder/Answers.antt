-- `rs::division::remainder` meets its contract: the numbers of the parity and of the last six bytes add as the lists do.
-- Assumes nothing.
use mathlib.Core.Path.{◌≡◌, ap, ap₂, ◌∙◌}
use mathlib.Core.List.{List}
use Prim.Native.Nat.{ℕ, ◌-◌}
use native.Mathlib.Omega.{arith}
use lib.ListN.{length, take, drop}
use Rattle.basics.proofs.Laws.Below.{at-below}
use Rattle.gf256.specs.Field.{◌⊕◌}
use Rattle.rs.specs.Codeword.{parity_of}
use Rattle.rs.specs.Packed.{pack}
use Rattle.rs.proofs.Laws.Packed.{remainder-sum}
use Rattle.rs.proofs.division.remainder.Goals as goal

pub returns : goal.returns
unfolding ◌⊕◌
returns c =
    let l : List ℕ = c.args.block.now in
    let parts = rw c.unwrap.ensures at c.split_last_chunk.ensures.cases in
    let n : length l - 6 ≡ 248 = omega arith in
    ap₂ ◌⊕◌ (c.parity.ensures ∙ ap (λ (m : List ℕ). pack (parity_of m)) (parts.0 ∙ ap (λ (k : ℕ). take k l) n))
    (c.pack.ensures ∙ ap pack (parts.1 ∙ ap (λ (k : ℕ). drop k l) n))
    ∙ remainder-sum l c.requires (at-below 256 l (λ i. (c.type_inv.block i).fits))
