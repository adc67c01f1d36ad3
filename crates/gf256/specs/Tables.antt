-- The two tables of the field: the powers of 2, and for each byte but 0 the power that it is.
-- Assumes nothing.
use Rattle.std.specs.Prelude.{◌≡◌, List, ℕ, ◌<◌, length, get_or}
use Rattle.gf256.specs.Field.{pow}

-- the powers of 2 from 0 to 254
pub record PowerTable (t : List ℕ) : Type 0 where
  pub long : length t ≡ 255
  pub at : (k : ℕ) → k < 255 → get_or t k 0 ≡ pow 2 k

-- the power of 2, from 0 to 254, that each byte but 0 is; at 0 stands 0
pub record LogTable (t : List ℕ) : Type 0 where
  pub long : length t ≡ 256
  pub none : get_or t 0 0 ≡ 0
  pub within : (a : ℕ) → 0 < a → a < 256 → get_or t a 0 < 255
  pub at : (a : ℕ) → 0 < a → a < 256 → pow 2 (get_or t a 0) ≡ a
