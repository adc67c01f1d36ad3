-- `rs::divisor` meets its contract: before each turn, what the turns to come make of the product is G without its x^6.
-- Assumes nothing.
use mathlib.Core.Path.{◌≡◌}
use mathlib.Core.List.{List, [], ◌∷◌}
use Prim.Native.Nat.{ℕ, zero, suc, ◌-◌}
use lib.ListN.{drop}
use Rattle.gf256.specs.Field.{pow}
use Rattle.rs.specs.Polynomial.{◌⊠◌}
use Rattle.rs.specs.Codeword.{divisor_bytes}
use Rattle.rs.proofs.divisor.Given as goal

-- what n turns make of p, the first of them with the root 2^j
unfoldable pub turns : ℕ → ℕ → List ℕ → List ℕ
turns zero j p = p
turns (suc n) j p = turns n (suc j) (drop 1 (p ⊠ (1 ∷ pow 2 j ∷ [])))

-- the power at which the loop ends
abbrev pub end : ℕ
end = 6

abbrev pub invariant-loop-j : goal.invariant-loop-j
invariant-loop-j l = turns (end - l.j) l.j l.product ≡ divisor_bytes
