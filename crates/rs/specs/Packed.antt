-- Bytes packed into one number, and the long division on such numbers. Only contracts of private functions cite this file: no caller
-- of the crate has to believe it.
-- Assumes nothing.
use Rattle.std.specs.Prelude.{◌≡◌, List, [], ◌∷◌, ℕ, zero, suc, ◌+◌, ◌*◌, ◌/◌, ◌%◌, ◌<◌, length, get_or}
use Rattle.gf256.specs.Field.{◌⊕◌}
use Rattle.rs.specs.Polynomial.{scale}

-- the bytes as digits of a number, the first lowest
unfoldable pub pack : List ℕ → ℕ
pack [] = 0
pack (b ∷ l) = pack l * 256 + b

-- the n lowest digits of a number, the lowest first
unfoldable pub unpack : ℕ → ℕ → List ℕ
unpack zero w = []
unpack (suc n) w = w % 256 ∷ unpack n (w / 256)

-- one turn of the division by x^n + g on a packed remainder: its first byte goes, and that byte's multiple of g comes in
unfoldable pub turn : List ℕ → ℕ → ℕ
turn g s = s / 256 ⊕ pack (scale (s % 256) g)

-- t holds, packed, f times g at each f below n
abbrev pub Multiples : ℕ → List ℕ → List ℕ → Type 0
Multiples n g t = (f : ℕ) → f < n → get_or t f 0 ≡ pack (scale f g)

-- u is t below `size`, and from there on has the first n entries of t, each with the row added
pub record Extended (size n row : ℕ) (t u : List ℕ) : Type 0 where
  pub long : length u ≡ length t
  pub kept : (i : ℕ) → i < size → get_or u i 0 ≡ get_or t i 0
  pub made : (i : ℕ) → i < n → get_or u (size + i) 0 ≡ get_or t i 0 ⊕ row
