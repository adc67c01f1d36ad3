-- The distance: a list of at most 255 bytes whose values at 2^0 to 2^(k-1) are 0 has more than k entries past 0, or none;
-- so two lists with the same k values differ in more than k places, or in none. And the laws of counting the places.
-- Assumes nothing.
use mathlib.Core.Path.{◌≡◌, refl, sym, ap, ap₂, ◌∙◌, subst}
use mathlib.Core.Bool.{Bool, true, false, cond}
use mathlib.Core.List.{List, [], ◌∷◌, ◌++◌}
use Prim.Native.Nat.{ℕ, zero, suc, ◌+◌, ◌≤◌, ◌<◌}
use native.Mathlib.Nat.{suc_inj, zero-add}
use native.Mathlib.Omega.{arith}
use borrow.Author.Tests.{eqb-true, eqb-false}
use lib.Dec.{eqb}
use lib.ListN.{length, take, drop, set, take-append-drop}
use Rattle.gf256.specs.Field.{◌⊕◌, ◌⊗◌, pow}
use Rattle.gf256.specs.PowerSum.{Term, power_sum, Without, Apart, ByteTerms, Gone}
use Rattle.gf256.proofs.Laws.Sum.{⊕-self, ⊕-zero-l, ⊕-pos}
use Rattle.gf256.proofs.Laws.Product.{⊗-zero-l, pow-lt, pow-swap, pow-inj}
use Rattle.gf256.proofs.Laws.PowerSum.{vanish}
use Rattle.rs.specs.Polynomial.{value_at, ◌⊞◌}
use Rattle.basics.specs.Below.{Bytes}
use Rattle.rs.specs.Decode.{changes}
use Rattle.rs.proofs.Laws.Polynomial.{length-⊞, ⊞-bytes, value-⊞}

-- ---- the entries past 0, as terms

-- how many there are
abbrev pub weight : List ℕ → ℕ
weight [] = 0
weight (zero ∷ l) = weight l
weight (suc d ∷ l) = suc (weight l)

-- each at the power of 2 that the entries after it count
abbrev pub terms : List ℕ → List Term
terms [] = []
terms (zero ∷ l) = terms l
terms (suc d ∷ l) = record { X = pow 2 (length l); Y = suc d } ∷ terms l

pub length-terms : (l : List ℕ) → length (terms l) ≡ weight l
length-terms [] = refl
length-terms (zero ∷ l) = length-terms l
length-terms (suc d ∷ l) = ap suc (length-terms l)

pub terms-bytes : (l : List ℕ) → Bytes l → ByteTerms (terms l)
terms-bytes [] b = tt
terms-bytes (zero ∷ l) b = terms-bytes l b.1
terms-bytes (suc d ∷ l) b = (pow-lt 2 (length l), b.0, terms-bytes l b.1)

terms-without : (n : ℕ) (l : List ℕ) → n < 255 → length l ≤ n → Without (pow 2 n) (terms l)
terms-without n [] h k = tt
terms-without n (zero ∷ l) h k = terms-without n l h (omega arith)
terms-without n (suc d ∷ l) h k =
    ((λ e. let z : length l ≡ n = pow-inj (length l) n (omega arith) h e in omega arith), terms-without n l h (omega arith))

pub terms-apart : (l : List ℕ) → length l ≤ 255 → Apart (terms l)
terms-apart [] h = tt
terms-apart (zero ∷ l) h = terms-apart l (omega arith)
terms-apart (suc d ∷ l) h = (terms-without (length l) l h (omega arith), terms-apart l (omega arith))

pub terms-sum : (l : List ℕ) (j : ℕ) → power_sum (terms l) j ≡ value_at (pow 2 j) l
unfolding power_sum value_at
terms-sum [] j = refl
terms-sum (zero ∷ l) j = terms-sum l j ∙ sym (ap (λ (z : ℕ). z ⊕ value_at (pow 2 j) l) (⊗-zero-l _) ∙ ⊕-zero-l _)
terms-sum (suc d ∷ l) j = ap₂ (λ (p z : ℕ). suc d ⊗ p ⊕ z) (pow-swap 2 (length l) j) (terms-sum l j)

terms-gone : (l : List ℕ) → Gone (terms l) → weight l ≡ 0
terms-gone [] g = refl
terms-gone (zero ∷ l) g = terms-gone l g
terms-gone (suc d ∷ l) g = absurd (omega (arith, g.0))

pub light : (k : ℕ) (l : List ℕ) → length l ≤ 255 → Bytes l → weight l ≤ k → ((j : ℕ) → j < k → value_at (pow 2 j) l ≡ 0) → weight l ≡ 0
light k l h b w s = terms-gone l (vanish k (terms l) (rw length-terms w) (terms-bytes l b) (terms-apart l h) (λ j i. terms-sum l j ∙ s j i))

-- ---- the places in which two lists differ

-- what one place counts
abbrev pub differ : ℕ → ℕ → ℕ
differ a b = cond (eqb a b) 0 1

-- a statement of it, by its two cases
pub place : (P : ℕ → Type 0) (a b : ℕ) → (a ≡ b → P 0) → ((a ≡ b → ⊥) → P 1) → P (differ a b)
place P a b p q = go (eqb a b) refl
  where
    go : (t : Bool) → eqb a b ≡ t → P (cond t 0 1)
    go true e = p (eqb-true a b e)
    go false e = q (eqb-false a b e)

pub differ-le : (a b : ℕ) → differ a b ≤ 1
differ-le a b = place (λ x. x ≤ 1) a b (λ e. omega arith) (λ n. omega arith)

pub differ_same : (a b : ℕ) → a ≡ b → differ a b ≡ 0
differ_same a b e = place (λ x. x ≡ 0) a b (λ q. refl) (λ n. absurd (n e))

pub differ-zero : (a b : ℕ) → differ a b ≡ 0 → a ≡ b
differ-zero a b = place (λ x. x ≡ 0 → a ≡ b) a b (λ e z. e) (λ n z. absurd (omega arith))

pub differ-via : (a b d : ℕ) → differ a b ≤ differ a d + differ b d
differ-via a b d =
    place (λ x. differ a b ≤ x + differ b d) a d
    (λ e. place (λ x. differ a b ≤ 0 + x) b d (λ f. omega (arith, differ_same a b (e ∙ sym f))) (λ n. omega (arith, differ-le a b)))
    (λ n. omega (arith, differ-le a b))

pub changes-self : (l : List ℕ) → changes l l ≡ 0
unfolding changes
changes-self [] = refl
changes-self (a ∷ l) = omega (arith, differ_same a a refl, changes-self l)

pub changes-zero : (l m : List ℕ) → length l ≡ length m → changes l m ≡ 0 → l ≡ m
unfolding changes
changes-zero [] [] e z = refl
changes-zero [] (b ∷ m) e z = absurd (omega arith)
changes-zero (a ∷ l) [] e z = absurd (omega arith)
changes-zero (a ∷ l) (b ∷ m) e z = ap₂ (λ (x : ℕ) (y : List ℕ). x ∷ y) (differ-zero a b (omega arith)) (changes-zero l m (suc_inj e) (omega arith))

-- the way by r
pub changes-via : (c w r : List ℕ) → length c ≡ length r → length w ≡ length r → changes c w ≤ changes c r + changes w r
unfolding changes
changes-via [] w r ec ew = omega arith
changes-via (a ∷ c) [] r ec ew = omega arith
changes-via (a ∷ c) (b ∷ w) [] ec ew = absurd (omega arith)
changes-via (a ∷ c) (b ∷ w) (d ∷ r) ec ew = omega (arith, differ-via a b d, changes-via c w r (suc_inj ec) (suc_inj ew))

pub changes-le-length : (l m : List ℕ) → changes l m ≤ length l
unfolding changes
changes-le-length [] m = omega arith
changes-le-length (a ∷ l) [] = omega arith
changes-le-length (a ∷ l) (b ∷ m) = omega (arith, differ-le a b, changes-le-length l m)

pub changes-set : (l m : List ℕ) (i v : ℕ) → changes (set l i v) m ≤ suc (changes l m)
unfolding changes
changes-set [] m i v = omega arith
changes-set (a ∷ l) [] zero v = omega arith
changes-set (a ∷ l) [] (suc i) v = omega arith
changes-set (a ∷ l) (b ∷ m) zero v = omega (arith, differ-le v b)
changes-set (a ∷ l) (b ∷ m) (suc i) v = omega (arith, changes-set l m i v)

pub changes-append : (a b c : List ℕ) → changes (a ++ b) (a ++ c) ≡ changes b c
unfolding changes
changes-append [] b c = refl
changes-append (x ∷ a) b c = omega (arith, differ_same x x refl, changes-append a b c)

-- a list and another with the same n first entries
pub changes-after : (n : ℕ) (l p : List ℕ) → changes l (take n l ++ p) ≤ length (drop n l)
changes-after n l p =
    subst (λ (x : List ℕ). changes x (take n l ++ p) ≤ length (drop n l)) (take-append-drop n l) (rw changes-append (changes-le-length (drop n l) p))

-- ---- two lists with the same values

weight-cons : (a b : ℕ) (l : List ℕ) → weight (a ⊕ b ∷ l) ≡ differ a b + weight l
weight-cons a b l =
    place (λ x. weight (a ⊕ b ∷ l) ≡ x + weight l) a b
    (λ e. rw (e, ⊕-self) (sym (zero-add _)))
    (λ n. past (a ⊕ b) (⊕-pos a b n))
  where
    past : (x : ℕ) → 0 < x → weight (x ∷ l) ≡ 1 + weight l
    past zero p = absurd (omega arith)
    past (suc x) p = omega arith

pub changes-weight : (l m : List ℕ) → length l ≡ length m → changes l m ≡ weight (l ⊞ m)
unfolding changes ◌⊞◌
changes-weight [] m e = refl
changes-weight (a ∷ l) [] e = refl
changes-weight (a ∷ l) (b ∷ m) e = omega (arith, weight-cons a b (l ⊞ m), changes-weight l m (suc_inj e))

-- two lists with the same k values that differ in at most k places are one
pub close-equal : (k : ℕ) (l m : List ℕ) → length l ≡ length m → length m ≤ 255 → Bytes l → Bytes m → changes l m ≤ k
    → ((j : ℕ) → j < k → value_at (pow 2 j) l ≡ value_at (pow 2 j) m) → l ≡ m
close-equal k l m e h a b c s =
    changes-zero l m e
    (changes-weight l m e
    ∙ light k (l ⊞ m) (rw (length-⊞ l m e) h) (⊞-bytes l m a b) (rw (changes-weight l m e) at c)
    (λ j i. value-⊞ (pow 2 j) l m e ∙ ap (λ (z : ℕ). z ⊕ value_at (pow 2 j) m) (s j i) ∙ ⊕-self _))
