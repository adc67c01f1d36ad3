-- Few terms by their moments: the j-th sum of a term y at x is y x^j. What killing a place does to sums that terms explain.
-- Assumes nothing.
use mathlib.Core.Path.{◌≡◌, refl, ap, ap₂, ◌∙◌}
use mathlib.Core.List.{List, [], ◌∷◌}
use Prim.Native.Nat.{ℕ, zero, suc, ◌+◌, ◌≤◌, ◌<◌}
use native.Mathlib.Omega.{arith}
use lib.ListN.{length, get_or, set, length-set}
use lib.Seq.{get_or-set_same, get_or-set_other}
use Rattle.basics.proofs.Laws.Test.{below_more}
use Rattle.gf256.specs.Field.{◌⊕◌, ◌⊗◌, pow}
use Rattle.gf256.specs.PowerSum.{Term, power_sum, kill}
use Rattle.gf256.proofs.Laws.Sum.{⊕-zero-r, ⊕-pos}
use Rattle.gf256.proofs.Laws.Product.{⊗-one-r, pow-inj}
use Rattle.gf256.proofs.Laws.PowerSum.{kill-sum, kill-head}
use Rattle.gf256.proofs.Laws.Ring.{ring}
use Rattle.basics.proofs.Laws.Parts.{all-entries}
use Rattle.rs.specs.Polynomial.{value_at}
use Rattle.rs.proofs.Laws.Polynomial.{Summed}
use Rattle.search.specs.Search.{term, Explains, killed_of, sums_of}

-- y x^j
abbrev pub moment : ℕ → ℕ → ℕ → ℕ
moment y x zero = y
moment y x (suc j) = moment y x j ⊗ x

up : (y x p : ℕ) → y ⊗ (x ⊗ p) ≡ y ⊗ p ⊗ x
up y x p = simp ring

pub moment-pow : (y x j : ℕ) → y < 256 → y ⊗ pow x j ≡ moment y x j
unfolding pow
moment-pow y x zero h = ⊗-one-r y h
moment-pow y x (suc j) h = up y x (pow x j) ∙ ap (λ (p : ℕ). p ⊗ x) (moment-pow y x j h)

-- two places are apart
pub apart : (i j : ℕ) → i < 255 → j < 255 → (i ≡ j → ⊥) → 0 < pow 2 i ⊕ pow 2 j
apart i j hi hj n = ⊕-pos _ _ (λ e. n (pow-inj i j hi hj e))

-- ---- the sums of one, two and three terms

pub explained-one : (n k y : ℕ) (s : List ℕ) → y < 256 → Explains n (term k y ∷ []) s → (j : ℕ) → j < n → get_or s j 0 ≡ moment y (pow 2 k) j
unfolding power_sum
explained-one n k y s h E j l = E.at j l ∙ ⊕-zero-r _ ∙ moment-pow y (pow 2 k) j h

pub explained-two : (n k y m z : ℕ) (s : List ℕ) → y < 256 → z < 256 → Explains n (term k y ∷ term m z ∷ []) s
    → (j : ℕ) → j < n → get_or s j 0 ≡ moment y (pow 2 k) j ⊕ moment z (pow 2 m) j
unfolding power_sum
explained-two n k y m z s hy hz E j l = E.at j l ∙ ap₂ ◌⊕◌ (moment-pow y (pow 2 k) j hy) (⊕-zero-r _ ∙ moment-pow z (pow 2 m) j hz)

pub explained-three : (n k y m z i w : ℕ) (s : List ℕ) → y < 256 → z < 256 → w < 256 → Explains n (term k y ∷ term m z ∷ term i w ∷ []) s
    → (j : ℕ) → j < n → get_or s j 0 ≡ moment y (pow 2 k) j ⊕ (moment z (pow 2 m) j ⊕ moment w (pow 2 i) j)
unfolding power_sum
explained-three n k y m z i w s hy hz hw E j l =
    E.at j l ∙ ap₂ ◌⊕◌ (moment-pow y (pow 2 k) j hy) (ap₂ ◌⊕◌ (moment-pow z (pow 2 m) j hz) (⊕-zero-r _ ∙ moment-pow w (pow 2 i) j hw))

-- ---- killing the first place leaves the others

killed-at : (x : ℕ) (s : List ℕ) (j : ℕ) → j < 5 → get_or (killed_of x s) j 0 ≡ get_or s (suc j) 0 ⊕ x ⊗ get_or s j 0
killed-at x s zero h = refl
killed-at x s (suc zero) h = refl
killed-at x s (suc (suc zero)) h = refl
killed-at x s (suc (suc (suc zero))) h = refl
killed-at x s (suc (suc (suc (suc zero)))) h = refl
killed-at x s (suc (suc (suc (suc (suc j))))) h = absurd (omega arith)

pub explains-kill : (n : ℕ) (e : Term) (es : List Term) (s : List ℕ) → n ≤ 5 → Explains (suc n) (e ∷ es) s → Explains n (kill e.X es) (killed_of e.X s)
explains-kill n e es s l E = record {
  at = λ j h.
      killed-at e.X s j (omega arith) ∙ ap₂ (λ (p q : ℕ). p ⊕ e.X ⊗ q) (E.at (suc j) (omega arith)) (E.at j (omega arith))
      ∙ kill-sum e.X (e ∷ es) j ∙ kill-head e es j;
}

-- ---- the six sums of a list

pub six-sums : (l s : List ℕ) (m : ℕ) → 6 ≤ m → Summed l s m → s ≡ sums_of l
unfolding sums_of
six-sums l s m h S =
    let at : (j : ℕ) → j < 6 → get_or s j 0 ≡ value_at (pow 2 j) l = λ j b. S.at j (omega arith) in
    cc (all-entries 6 s S.long, at 0 (omega arith), at 1 (omega arith), at 2 (omega arith), at 3 (omega arith), at 4 (omega arith), at 5 (omega arith))

-- ---- x is killed, a sum at a time

-- the first j sums are what is left once x is killed
pub record Leaving (x : ℕ) (s left : List ℕ) (j : ℕ) : Type 0 where
  pub long : length left ≡ 6
  pub done : (i : ℕ) → i < j → get_or left i 0 ≡ get_or s (i + 1) 0 ⊕ x ⊗ get_or s i 0
  pub rest : (i : ℕ) → j ≤ i → get_or left i 0 ≡ get_or s i 0

pub leaving-none : (x : ℕ) (s : List ℕ) → length s ≡ 6 → Leaving x s s 0
leaving-none x s n = record { long = n; done = λ i h. absurd (omega arith); rest = λ i h. refl }

pub leaving-more : (x : ℕ) (s left : List ℕ) (j r : ℕ) → j < 5 → Leaving x s left j → r ≡ get_or left (j + 1) 0 ⊕ x ⊗ get_or left j 0 → Leaving x s (set left j r) (j + 1)
leaving-more x s left j r h L e = record {
  long = length-set left j r ∙ L.long;
  done = below_more _ j (λ i b. get_or-set_other left j i r 0 (λ z. omega arith) ∙ L.done i b)
      (get_or-set_same left j r 0 (omega (arith, L.long)) ∙ e ∙ ap₂ (λ (p q : ℕ). p ⊕ x ⊗ q) (L.rest (j + 1) (omega arith)) (L.rest j (omega arith)));
  rest = λ i b. get_or-set_other left j i r 0 (λ z. omega arith) ∙ L.rest i (omega arith);
}

-- with a 0 behind them
pub leaving-all : (x : ℕ) (s left : List ℕ) (j : ℕ) → j ≡ 5 → Leaving x s left j → set left 5 0 ≡ killed_of x s
leaving-all x s left j e L =
    let at : (i : ℕ) → i < 5 → get_or (set left 5 0) i 0 ≡ get_or s (i + 1) 0 ⊕ x ⊗ get_or s i 0 =
    λ i b. get_or-set_other left 5 i 0 0 (λ z. omega arith) ∙ L.done i (omega arith) in
    cc (
      all-entries 6 (set left 5 0) (length-set left 5 0 ∙ L.long),
      at 0 (omega arith),
      at 1 (omega arith),
      at 2 (omega arith),
      at 3 (omega arith),
      at 4 (omega arith),
      get_or-set_same left 5 0 0 (omega (arith, L.long)),
    )
