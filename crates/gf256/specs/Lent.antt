-- Product and quotient by two lent tables: a wheel of powers and a table of logarithms.
-- Assumes nothing.
use Rattle.std.specs.Prelude.{◌≡◌, List, ℕ, zero, suc, ◌+◌, ◌-◌, ◌<◌, ◌≤◌, cond, ltb, length, get_or}
use Rattle.gf256.specs.Field.{pow}

-- the powers of 2 twice around, and zeros from 510 on
pub record Wheel (w : List ℕ) : Type 0 where
  pub long : length w ≡ 1021
  pub at : (k : ℕ) → k < 510 → get_or w k 0 ≡ pow 2 k
  pub past : (k : ℕ) → 510 ≤ k → get_or w k 0 ≡ 0

-- what stands on the wheel: a power of 2 below 510, and 0 from there on
unfoldable pub on_wheel : ℕ → ℕ
on_wheel k = cond (ltb k 510) (pow 2 k) 0

-- the logarithm of a; that of 0 is past all powers
unfoldable pub log_in : List ℕ → ℕ → ℕ
log_in l zero = 510
log_in l (suc a) = get_or l (suc a) 0

-- the power at the sum of the logarithms
unfoldable pub product_in : List ℕ → List ℕ → ℕ → ℕ → ℕ
product_in w l a b = get_or w (log_in l a + log_in l b) 0

-- the power at the difference of the logarithms, once around; by 0 it is 0
unfoldable pub quotient_in : List ℕ → List ℕ → ℕ → ℕ → ℕ
quotient_in w l a zero = 0
quotient_in w l a (suc b) = get_or w (log_in l a + 255 - get_or l (suc b) 0) 0
