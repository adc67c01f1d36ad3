-- `rs::divisor` meets its contract: before each turn, what the turns to come make of the product is G without its x^6.
-- Assumes nothing.
use mathlib.Core.Path.{◌≡◌, refl, ap, ◌∙◌}
use mathlib.Core.List.{List, [], ◌∷◌}
use Prim.Native.Nat.{ℕ, suc, ◌+◌, ◌-◌}
use native.Mathlib.Omega.{arith}
use native.Mathlib.Numerals.{add-one}
use lib.ListN.{drop}
use Rattle.gf256.specs.Field.{◌⊕◌, ◌⊗◌, by_bits, double, pow}
use Rattle.rs.specs.Polynomial.{◌⊞◌, scale, ◌⊠◌}
use Rattle.rs.specs.Codeword.{divisor_bytes}
use Rattle.rs.proofs.divisor.Invariants.{end, turns}
use Rattle.rs.proofs.divisor.Goals as goal

pub loop-j-init : goal.loop-j-init
unfolding turns divisor_bytes ◌⊠◌ ◌⊞◌ scale pow ◌⊗◌ by_bits double ◌⊕◌
loop-j-init c = refl

pub loop-j-preserved : goal.loop-j-preserved
unfolding turns
loop-j-preserved c =
    let loop = c.loop-j in
    let j : ℕ = loop.j in
    let n : ℕ = end - (j + 1) in
    let one_more : suc n ≡ end - j = omega arith in
    let next : List ℕ = drop 1 (loop.product ⊠ (1 ∷ pow 2 j ∷ [])) in
    ap (turns n (j + 1)) c.add_root.ensures ∙ ap (λ (i : ℕ). turns n i next) (add-one j) ∙ ap (λ (m : ℕ). turns m j loop.product) one_more ∙ loop.invariant

pub returns : goal.returns
unfolding turns
returns c =
    let loop = c.loop-j in
    let none : 0 ≡ end - loop.j = omega arith in
    ap (λ (m : ℕ). turns m loop.j loop.product) none ∙ loop.invariant
