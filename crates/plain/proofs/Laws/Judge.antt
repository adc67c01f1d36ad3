-- The test whether three values have the six sums, a sum at a time.
-- Assumes nothing.
use mathlib.Core.Path.{◌≡◌, refl, sym, ap, ap₂, ◌∙◌}
use mathlib.Core.Bool.{true, false}
use mathlib.Core.List.{List, [], ◌∷◌, map}
use Prim.Native.Nat.{ℕ, ◌+◌, ◌<◌, ◌≤◌}
use native.Mathlib.Numerals.{add-one}
use native.Mathlib.Omega.{arith}
use lib.ListN.{length, get_or, length-map}
use Rattle.basics.proofs.Laws.Test.{never, below_more}
use Rattle.gf256.specs.Field.{◌⊕◌, ◌⊗◌, pow}
use Rattle.gf256.specs.PowerSum.{Term, power_sum}
use Rattle.gf256.proofs.Laws.Sum.{⊕-zero-r}
use Rattle.gf256.proofs.Laws.Product.{⊗-assoc, ⊗-comm, ⊗-one-r}
use Rattle.plain.specs.Plain.{element, terms_at, places_of, values_of, Judges}
use Rattle.plain.specs.declared.errors.Error.{Error}

-- ---- a part of the m-th sum

part_none : (x y : ℕ) → y < 256 → y ≡ y ⊗ pow x 0
unfolding pow
part_none x y h = sym (⊗-one-r y h)

part-more : (x y m u v : ℕ) → u ≡ y ⊗ pow x m → v ≡ u ⊗ x → v ≡ y ⊗ pow x (m + 1)
unfolding pow
part-more x y m u v e f = f ∙ ap (λ (p : ℕ). p ⊗ x) e ∙ ⊗-assoc y _ x ∙ ap (◌⊗◌ y) (⊗-comm _ x) ∙ ap (λ (n : ℕ). y ⊗ pow x n) (sym (add-one m))

-- ---- three of them

pub three-are : {A : Type 0} (l : List A) (d e f : A) → length l ≡ 3 → l ≡ get_or l 0 d ∷ get_or l 1 e ∷ get_or l 2 f ∷ []
three-are [] d e f n = absurd (omega arith)
three-are (a ∷ []) d e f n = absurd (omega arith)
three-are (a ∷ b ∷ []) d e f n = absurd (omega arith)
three-are (a ∷ b ∷ c ∷ []) d e f n = refl
three-are (a ∷ b ∷ c ∷ g ∷ l) d e f n = absurd (omega arith)

module _ (s : List ℕ) (es : List Error) where
  abbrev value : ℕ → ℕ
  value i = get_or (values_of es) i 0

  abbrev terms : List Term
  terms = terms_at (map element (places_of es)) (values_of es)

  -- u, v and w are the parts of the m-th sum, and the sums before it are right
  pub record Parts (x y z u v w m : ℕ) : Type 0 where
    pub first : u ≡ value 0 ⊗ pow x m
    pub second : v ≡ value 1 ⊗ pow y m
    pub third : w ≡ value 2 ⊗ pow z m
    pub passed : (l : ℕ) → l < m → get_or s l 0 ≡ power_sum terms l

  pub parts_none : (x y z : ℕ) (ys : List ℕ) → ys ≡ values_of es → ((i : ℕ) → get_or ys i 0 < 256) → Parts x y z (get_or ys 0 0) (get_or ys 1 0) (get_or ys 2 0) 0
  parts_none x y z ys e f =
      let one : (x i : ℕ) → get_or ys i 0 ≡ value i ⊗ pow x 0 = λ x i. part_none x _ (f i) ∙ ap (λ (v : ℕ). v ⊗ pow x 0) (ap (λ (l : List ℕ). get_or l i 0) e) in
      record { first = one x 0; second = one y 1; third = one z 2; passed = λ l h. absurd (omega arith) }

  module _ (n : length es ≡ 3) (a b c : Error) (x y z : ℕ)
      (ex : x ≡ element (get_or es 0 a).place) (ey : y ≡ element (get_or es 1 b).place) (ez : z ≡ element (get_or es 2 c).place)
      (u v w m : ℕ) (P : Parts x y z u v w m) where
    terms-are : terms ≡ terms_at (x ∷ y ∷ z ∷ []) (value 0 ∷ value 1 ∷ value 2 ∷ [])
    terms-are =
        ap₂ (λ (is ys : List ℕ). terms_at (map element is) ys) (ap places_of (three-are es a b c n)) (three-are (values_of es) 0 0 0 (length-map es _ ∙ n))
        ∙ (λ i. terms_at (sym ex i ∷ sym ey i ∷ sym ez i ∷ []) (value 0 ∷ value 1 ∷ value 2 ∷ []))

    parts-sum : u ⊕ (v ⊕ w) ≡ power_sum terms m
    unfolding power_sum
    parts-sum = ap₂ ◌⊕◌ P.first (ap₂ ◌⊕◌ P.second (P.third ∙ sym (⊕-zero-r _))) ∙ sym (ap (λ (ts : List Term). power_sum ts m) terms-are)

    pub parts_more : (u' v' w' : ℕ) → get_or s m 0 ≡ u ⊕ (v ⊕ w) → u' ≡ u ⊗ x → v' ≡ v ⊗ y → w' ≡ w ⊗ z → Parts x y z u' v' w' (m + 1)
    parts_more u' v' w' e eu ev ew = record {
      first = part-more x _ m u u' P.first eu;
      second = part-more y _ m v v' P.second ev;
      third = part-more z _ m w w' P.third ew;
      passed = below_more (λ l. get_or s l 0 ≡ power_sum terms l) m P.passed (e ∙ parts-sum);
    }

    pub judged-false : m < 6 → (get_or s m 0 ≡ u ⊕ (v ⊕ w) → ⊥) → Judges s es false
    judged-false h d = record { sound = λ q. never (sym q); complete = λ E. absurd (d (E m h ∙ sym parts-sum)) }

    pub judged-true : 6 ≤ m → Judges s es true
    judged-true h = record { sound = λ q l k. P.passed l (omega arith); complete = λ E. refl }
