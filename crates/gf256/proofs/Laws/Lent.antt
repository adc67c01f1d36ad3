-- Product and quotient over lent tables are those of the field, where the tables are a wheel and a table of logarithms.
-- Assumes nothing.
use mathlib.Core.Path.{◌≡◌, refl, sym, ap, ap₂, ◌∙◌}
use mathlib.Core.List.{List, ◌++◌}
use borrow.Rule.Slice.PartMut.{put_mid}
use Prim.Native.Nat.{ℕ, zero, suc, ◌+◌, ◌-◌, ◌≤◌, ◌<◌}
use mathlib.Core.Logic.{⊎_elim}
use native.Mathlib.Nat.{zero-lt-suc}
use native.Mathlib.Omega.{arith}
use lib.ListN.{length, get_or, drop, replicate, length-append, length-drop, get_or-append}
use lib.Seq.{ext_get_or}
use Rattle.std.proofs.lemmas.Bool.Decides.{nat_tests}
use Rattle.std.proofs.lemmas.List.{take_at, drop_at, get_or-drop, get_or-append_right}
use Rattle.gf256.specs.Field.{◌⊗◌, pow, over}
use Rattle.gf256.specs.Tables.{PowerTable, LogTable}
use Rattle.gf256.specs.Lent.{Wheel, on_wheel, log_in, product_in, quotient_in}
use Rattle.basics.proofs.Laws.Test.{lt-or-le}
use Rattle.gf256.proofs.Laws.Product.{⊗-zero-l, ⊗-zero-r, pow-add, pow-lt, pow-around, over-unique, over-zero-l, over-zero-r}

-- ---- what `log_in` gives

pub log-zero : (l : List ℕ) → log_in l 0 ≡ 510
unfolding log_in
log-zero l = refl

-- the logarithm of a byte but 0
pub record IsLog (a k : ℕ) : Type 0 where
  pub within : k < 255
  pub at : pow 2 k ≡ a

pub log-suc : (l : List ℕ) (a : ℕ) → suc a < 256 → LogTable l → IsLog (suc a) (log_in l (suc a))
unfolding log_in
log-suc l a h t = record { within = t.within (suc a) (zero-lt-suc a) h; at = t.at (suc a) (zero-lt-suc a) h }

pub log-of : (l : List ℕ) (a : ℕ) → 0 < a → log_in l a ≡ get_or l a 0
unfolding log_in
log-of l zero p = absurd (omega arith)
log-of l (suc a) p = refl

-- ---- the product

pub product-right : (w l : List ℕ) (a b : ℕ) → Wheel w → LogTable l → a < 256 → b < 256 → product_in w l a b ≡ a ⊗ b
unfolding product_in
product-right w l zero b W L ha hb = rw log-zero (W.past _ (omega arith) ∙ sym (⊗-zero-l b))
product-right w l (suc a) zero W L ha hb = rw (log-zero l) (W.past _ (omega arith) ∙ sym (⊗-zero-r (suc a)))
product-right w l (suc a) (suc b) W L ha hb =
    let A = log-suc l a ha L in
    let B = log-suc l b hb L in
    W.at _ (omega (arith, A.within, B.within)) ∙ pow-add 2 _ _ ∙ ap₂ ◌⊗◌ A.at B.at

-- ---- the quotient

pub quotient-zero : (w l : List ℕ) (a : ℕ) → quotient_in w l a 0 ≡ 0
unfolding quotient_in
quotient-zero w l a = refl

pub quotient-pos : (w l : List ℕ) (a b : ℕ) → 0 < b → quotient_in w l a b ≡ get_or w (log_in l a + 255 - get_or l b 0) 0
unfolding quotient_in
quotient-pos w l a zero p = absurd (omega arith)
quotient-pos w l a (suc b) p = refl

pub quotient-right : (w l : List ℕ) (a b : ℕ) → Wheel w → LogTable l → a < 256 → b < 256 → quotient_in w l a b ≡ over a b
quotient-right w l a zero W L ha hb = quotient-zero w l a ∙ sym (over-zero-r a)
quotient-right w l zero (suc b) W L ha hb =
    let B : get_or l (suc b) 0 < 255 = L.within (suc b) (zero-lt-suc b) hb in
    quotient-pos w l 0 (suc b) (zero-lt-suc b) ∙ ap (λ (k : ℕ). get_or w (k + 255 - get_or l (suc b) 0) 0) (log-zero l)
    ∙ W.past _ (omega arith) ∙ sym (over-zero-l (suc b))
quotient-right w l (suc a) (suc b) W L ha hb =
    let A = log-suc l a ha L in
    let B : get_or l (suc b) 0 < 255 = L.within (suc b) (zero-lt-suc b) hb in
    let i : ℕ = log_in l (suc a) in
    let j : ℕ = get_or l (suc b) 0 in
    let e : i + 255 - j + j ≡ i + 255 = omega (arith, A.within) in
    quotient-pos w l (suc a) (suc b) (zero-lt-suc b) ∙ W.at _ (omega (arith, A.within))
    ∙ sym (over-unique (suc a) (suc b) (pow 2 (i + 255 - j)) (zero-lt-suc b) hb (pow-lt 2 _)
    (ap (◌⊗◌ (pow 2 (i + 255 - j))) (sym (L.at (suc b) (zero-lt-suc b) hb)) ∙ sym (pow-add 2 _ j) ∙ ap (pow 2) e ∙ pow-around i ∙ A.at))

-- ---- what stands on the wheel

pub on-below : (k : ℕ) → k < 510 → on_wheel k ≡ pow 2 k
unfolding on_wheel
on-below k h = grind (arith, nat_tests)

pub on-past : (k : ℕ) → 510 ≤ k → on_wheel k ≡ 0
unfolding on_wheel
on-past k h = grind (arith, nat_tests)

pub on-wheel : (w : List ℕ) (k : ℕ) → Wheel w → get_or w k 0 ≡ on_wheel k
on-wheel w k W =
    ⊎_elim (λ (h : k < 510). W.at k h ∙ sym (on-below k h)) (λ (h : 510 ≤ k). W.past k h ∙ sym (on-past k h)) (lt-or-le k 510)

-- ---- one wheel

pub wheel-unique : (v w : List ℕ) → Wheel v → Wheel w → v ≡ w
wheel-unique v w A W =
    ext_get_or 0 v w (A.long ∙ sym W.long)
    (λ k h. ⊎_elim (λ (l : k < 510). A.at k l ∙ sym (W.at k l)) (λ (l : 510 ≤ k). A.past k l ∙ sym (W.past k l)) (lt-or-le k 510))

-- ---- filling the wheel

-- two turns and the zeros behind them
two-turns : (t z : List ℕ) → PowerTable t → length z ≡ 511 → ((i : ℕ) → get_or z i 0 ≡ 0) → Wheel (t ++ (t ++ z))
two-turns t z P l none = record { long = length-append t (t ++ z) ∙ ap₂ ◌+◌ P.long (length-append t z ∙ ap₂ ◌+◌ P.long l); at = at; past = past }
  where
    behind : (k : ℕ) → 255 ≤ k → get_or (t ++ (t ++ z)) k 0 ≡ get_or (t ++ z) (k - 255) 0
    behind k h = get_or-append_right t (t ++ z) 255 k 0 P.long h

    first : (k : ℕ) (u : List ℕ) → k < 255 → get_or (t ++ u) k 0 ≡ pow 2 k
    first k u h = get_or-append t u 0 k (omega (arith, P.long)) ∙ P.at k h

    at : (k : ℕ) → k < 510 → get_or (t ++ (t ++ z)) k 0 ≡ pow 2 k
    at k h =
        ⊎_elim (λ (l : k < 255). first k (t ++ z) l)
        (λ (l : 255 ≤ k).
        let e : k - 255 + 255 ≡ k = omega arith in
        behind k l ∙ first (k - 255) z (omega arith) ∙ sym (pow-around (k - 255)) ∙ ap (pow 2) e)
        (lt-or-le k 255)

    past : (k : ℕ) → 510 ≤ k → get_or (t ++ (t ++ z)) k 0 ≡ 0
    past k h = behind k (omega arith) ∙ get_or-append_right t z 255 (k - 255) 0 P.long (omega arith) ∙ none (k - 255 - 255)

pub zeros-at : (n i : ℕ) → get_or {A = ℕ} (replicate n 0) i 0 ≡ 0
zeros-at zero i = refl
zeros-at (suc n) zero = refl
zeros-at (suc n) (suc i) = zeros-at n i

-- the powers copied twice over zeros
pub copied-twice : (t : List ℕ) → PowerTable t → Wheel (put_mid 255 255 (t ++ drop 255 (replicate 1021 0)) t)
copied-twice t P = wheel (replicate 766 0) (zeros-at 766) refl
  where
    wheel : (z : List ℕ) → ((i : ℕ) → get_or z i 0 ≡ 0) → length z ≡ 766 → Wheel (put_mid 255 255 (t ++ z) t)
    wheel z none l = rw (take_at t z 255 P.long, drop_at t z 255 P.long) (two-turns t (drop 255 z) P (length-drop 255 z ∙ ap (λ (n : ℕ). n - 255) l) (λ i. get_or-drop 255 z i 0 ∙ none (255 + i)))
