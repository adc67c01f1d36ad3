-- Tests that are computed: of two parts, of each number below a bound, of each entry of a table; and cases that proofs often go by.
-- Assumes nothing.
use mathlib.Core.Path.{◌≡◌, refl, ◌∙◌, subst, sym}
use mathlib.Core.Bool.{Bool, true, false, ◌&&◌, false≢true}
use mathlib.Core.List.{List, [], ◌∷◌}
use mathlib.Core.Logic.{◌↔◌, ◌⊎◌, ⊎_elim, inl, inr}
use Prim.Native.Nat.{ℕ, zero, suc, ◌+◌, ◌≤◌, ◌<◌}
use native.Mathlib.Nat.{add-zero, zero-add, add-suc, suc-add, le_of_suc-le-suc, not-suc-le-zero, eq-or-lt_of_le}
use native.Mathlib.Omega.{arith}
use lib.Dec.{T}
use lib.ListN.{length, get_or}

-- a number is below another, or not
pub lt-or-le : (a b : ℕ) → (a < b) ⊎ (b ≤ a)
lt-or-le a zero = inr (omega arith)
lt-or-le zero (suc b) = inl (omega arith)
lt-or-le (suc a) (suc b) = ⊎_elim (λ h. inl (omega arith)) (λ h. inr (omega arith)) (lt-or-le a b)

-- what holds at each number below m, and at m, holds at each below m + 1
pub below_more : (P : ℕ → Type 0) (m : ℕ) → ((l : ℕ) → l < m → P l) → P m → (l : ℕ) → l < m + 1 → P l
below_more P m f p l h = ⊎_elim (λ (e : l ≡ m). subst P (sym e) p) (λ (b : l < m). f l b) (eq-or-lt_of_le (omega arith))

-- ---- tests of two parts

pub both_left : (a b : Bool) → T (a && b) → T a
both_left true b t = tt
both_left false b t = t

pub both_right : (a b : Bool) → T (a && b) → T b
both_right true b t = t
both_right false b t = absurd t

pub both_true : (a b : Bool) → (a && b) ≡ true → (a ≡ true) × (b ≡ true)
both_true true b e = (refl, e)
both_true false b e = absurd (false≢true e)

-- two tests that pass at the same time are the same
pub same_test : (a b : Bool) → (a ≡ true → b ≡ true) → (b ≡ true → a ≡ true) → a ≡ b
same_test true b f g = sym (f refl)
same_test false true f g = g refl
same_test false false f g = refl

-- a test cannot both pass and fail
pub never : {A : Type 0} → ◌≡◌ {A = Bool} true false → A
never e = absurd (false≢true (sym e))

-- a test fails exactly when it does not pass
pub fails : (t : Bool) → (t ≡ false) ↔ (t ≡ true → ⊥)
fails true = (never, λ n. absurd (n refl))
fails false = (λ e t. never (sym t), λ n. refl)

-- ---- a rule at each number below a bound, and at each entry of a table

-- the test passes at each number below n
abbrev pub below : (ℕ → Bool) → ℕ → Bool
below f zero = true
below f (suc n) = f n && below f n

pub below_at : (f : ℕ → Bool) (n : ℕ) → T (below f n) → (k : ℕ) → k < n → T (f k)
below_at f zero t k h = absurd (not-suc-le-zero h)
below_at f (suc n) t k h = case (below_at f n (both_right (f n) (below f n) t) k) (eq-or-lt_of_le (le_of_suc-le-suc h))
  where
    case : (k < n → T (f k)) → (k ≡ n) ⊎ (k < n) → T (f k)
    case go (inl e) = subst (λ (m : ℕ). T (f m)) (sym e) (both_left (f n) (below f n) t)
    case go (inr l) = go l

-- the test passes at each place of the list, counted from i, and its entry
abbrev pub every : (ℕ → ℕ → Bool) → ℕ → List ℕ → Bool
every f i [] = true
every f i (x ∷ xs) = f i x && every f (suc i) xs

from : (f : ℕ → ℕ → Bool) (xs : List ℕ) (i : ℕ) → T (every f i xs) → (k : ℕ) → k < length xs → T (f (i + k) (get_or xs k 0))
from f [] i t k h = absurd (not-suc-le-zero h)
from f (x ∷ xs) i t zero h = subst (λ (m : ℕ). T (f m x)) (sym (add-zero i)) (both_left (f i x) (every f (suc i) xs) t)
from f (x ∷ xs) i t (suc k) h =
    subst (λ (m : ℕ). T (f m (get_or xs k 0))) (suc-add i k ∙ sym (add-suc i k))
    (from f xs (suc i) (both_right (f i x) (every f (suc i) xs) t) k (le_of_suc-le-suc h))

pub every-at : (f : ℕ → ℕ → Bool) (xs : List ℕ) → T (every f 0 xs) → (k : ℕ) → k < length xs → T (f k (get_or xs k 0))
every-at f xs t k h = subst (λ (m : ℕ). T (f m (get_or xs k 0))) (zero-add k) (from f xs 0 t k h)
