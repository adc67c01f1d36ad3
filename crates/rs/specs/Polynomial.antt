-- A list of bytes as a polynomial over GF(256): its first byte is the coefficient of the highest power.
-- Assumes nothing.
use Rattle.std.specs.Prelude.{List, [], ◌∷◌, ◌++◌, ℕ, pred, length, replicate}
use Rattle.gf256.specs.Field.{◌⊕◌, ◌⊗◌, pow}

infixl 65 ◌⊞◌
infixl 70 ◌⊠◌
-- the value at x
unfoldable pub value_at : ℕ → List ℕ → ℕ
value_at x [] = 0
value_at x (d ∷ ds) = d ⊗ pow x (length ds) ⊕ value_at x ds

-- the sum of two polynomials of one length
unfoldable pub ◌⊞◌ : List ℕ → List ℕ → List ℕ
[] ⊞ m = []
(a ∷ l) ⊞ [] = []
(a ∷ l) ⊞ (b ∷ m) = a ⊕ b ∷ (l ⊞ m)

-- f times a polynomial
unfoldable pub scale : ℕ → List ℕ → List ℕ
scale f [] = []
scale f (a ∷ l) = f ⊗ a ∷ scale f l

-- the zero polynomial, of n coefficients
abbrev pub zeros : ℕ → List ℕ
zeros n = replicate n 0

-- the product: each coefficient of the first times the second, moved up to its power
unfoldable pub ◌⊠◌ : List ℕ → List ℕ → List ℕ
[] ⊠ g = zeros (pred (length g))
(q ∷ qs) ⊠ g = (scale q g ++ zeros (length qs)) ⊞ (0 ∷ qs ⊠ g)
