-- Power sums: a list of terms, each a place X with a value Y, has for every j the sum of the Y·X^j.
-- Assumes nothing.
use Rattle.std.specs.Prelude.{◌≡◌, List, [], ◌∷◌, ℕ, ◌<◌}
use Rattle.gf256.specs.Field.{◌⊕◌, ◌⊗◌, pow}

-- a value Y at a place X
pub record Term : Type 0 where
  pub X : ℕ
  pub Y : ℕ

-- the sum of the Y·X^j
unfoldable pub power_sum : List Term → ℕ → ℕ
power_sum [] j = 0
power_sum (e ∷ es) j = e.Y ⊗ pow e.X j ⊕ power_sum es j

-- no term stands at x
abbrev pub Without : ℕ → List Term → Type 0
Without x [] = Unit {0}
Without x (e ∷ es) = (e.X ≡ x → ⊥) × Without x es

-- no two terms stand at one place
abbrev pub Apart : List Term → Type 0
Apart [] = Unit {0}
Apart (e ∷ es) = Without e.X es × Apart es

-- each place and each value is a byte
abbrev pub ByteTerms : List Term → Type 0
ByteTerms [] = Unit {0}
ByteTerms (e ∷ es) = (e.X < 256) × (e.Y < 256) × ByteTerms es

-- each value is 0
abbrev pub Gone : List Term → Type 0
Gone [] = Unit {0}
Gone (e ∷ es) = (e.Y ≡ 0) × Gone es

-- the place x killed: each value times X + x, so that the term at x is gone
abbrev pub kill : ℕ → List Term → List Term
kill x [] = []
kill x (e ∷ es) = record { X = e.X; Y = e.Y ⊗ (e.X ⊕ x) } ∷ kill x es
