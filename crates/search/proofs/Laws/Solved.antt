-- What the search with marks has found, or cannot find, by the values at the places that it located.
-- Assumes nothing.
use mathlib.Core.Path.{◌≡◌, refl, sym, ap, ap₂, ◌∙◌, subst}
use mathlib.Core.List.{List, [], ◌∷◌, ◌++◌}
use Prim.Native.Nat.{ℕ, zero, suc, ◌+◌, ◌≤◌, ◌<◌}
use native.Mathlib.Omega.{arith}
use lib.ListN.{length, get_or, set, take, length-append, length-set}
use lib.Seq.{ext_get_or, length-take-le, get_or-set_same, get_or-set_other}
use Rattle.basics.proofs.Laws.Test.{below_more}
use Rattle.gf256.specs.Field.{◌⊕◌, ◌⊗◌, pow}
use Rattle.gf256.specs.PowerSum.{power_sum, Apart, ByteTerms}
use Rattle.gf256.proofs.Laws.Sum.{⊕-self}
use Rattle.gf256.proofs.Laws.Product.{⊗-zero-l}
use Rattle.search.specs.Search.{Explains, error_places, error_values, terms_at, terms_of}
use Rattle.search.specs.Values.{exponents, FindsValues}
use Rattle.search.specs.declared.errors.Error.{Error}
use Rattle.search.proofs.Laws.Errors.{places-long, values-long}
use Rattle.search.proofs.Laws.Values.{exponents-long}
use Rattle.search.specs.SearchMarked.{places_in, Fits, Locates, SolvedMarked}
use Rattle.search.specs.declared.errors.Marks.{Marks}

-- values of 0 add nothing
sum-run : (j n : ℕ) (ks v : List ℕ) → ((i : ℕ) → n ≤ i → get_or v i 0 ≡ 0) → power_sum (terms_at ks v) j ≡ power_sum (terms_at (take n ks) (take n v)) j
unfolding power_sum
sum-run j zero [] v z = refl
sum-run j zero (k ∷ ks) [] z = refl
sum-run j zero (k ∷ ks) (y ∷ v) z =
    ap₂ ◌⊕◌ (ap (λ (x : ℕ). x ⊗ pow (pow 2 k) j) (z 0 (omega arith)) ∙ ⊗-zero-l _) (sum-run j zero ks v (λ i h. z (suc i) (omega arith))) ∙ ⊕-self 0
sum-run j (suc n) [] v z = refl
sum-run j (suc n) (k ∷ ks) [] z = refl
sum-run j (suc n) (k ∷ ks) (y ∷ v) z = ap (◌⊕◌ (y ⊗ pow (pow 2 k) j)) (sum-run j n ks v (λ i h. z (suc i) (omega arith)))

-- ---- places and values, put together one by one

places-set : (es : List Error) (i : ℕ) (e : Error) → error_places (set es i e) ≡ set (error_places es) i e.place.exponent
places-set [] i e = refl
places-set (d ∷ es) zero e = refl
places-set (d ∷ es) (suc i) e = ap (λ (ks : List ℕ). d.place.exponent ∷ ks) (places-set es i e)

values-set : (es : List Error) (i : ℕ) (e : Error) → error_values (set es i e) ≡ set (error_values es) i e.value
values-set [] i e = refl
values-set (d ∷ es) zero e = refl
values-set (d ∷ es) (suc i) e = ap (λ (ys : List ℕ). d.value ∷ ys) (values-set es i e)

-- the first i errors have their places and values
pub record Paired (ks v : List ℕ) (es : List Error) (i : ℕ) : Type 0 where
  pub long : length es ≡ 6
  pub places : (j : ℕ) → j < i → get_or (error_places es) j 0 ≡ get_or ks j 0
  pub values : (j : ℕ) → j < i → get_or (error_values es) j 0 ≡ get_or v j 0

pub paired-none : (ks v : List ℕ) (es : List Error) → length es ≡ 6 → Paired ks v es 0
paired-none ks v es n = record { long = n; places = λ j h. absurd (omega arith); values = λ j h. absurd (omega arith) }

pub paired-more : (ks v : List ℕ) (es : List Error) (i : ℕ) (e : Error) → i < 6 → Paired ks v es i → e.place.exponent ≡ get_or ks i 0 → e.value ≡ get_or v i 0
    → Paired ks v (set es i e) (i + 1)
paired-more ks v es i e h P p q = record {
  long = length-set es i e ∙ P.long;
  places = λ j b. ap (λ (l : List ℕ). get_or l j 0) (places-set es i e)
      ∙ below_more (λ j. get_or (set (error_places es) i e.place.exponent) j 0 ≡ get_or ks j 0) i (λ j b. get_or-set_other (error_places es) i j _ 0 (λ z. omega arith) ∙ P.places j b)
      (get_or-set_same (error_places es) i _ 0 (omega (arith, places-long es, P.long)) ∙ p) j b;
  values = λ j b. ap (λ (l : List ℕ). get_or l j 0) (values-set es i e)
      ∙ below_more (λ j. get_or (set (error_values es) i e.value) j 0 ≡ get_or v j 0) i (λ j b. get_or-set_other (error_values es) i j _ 0 (λ z. omega arith) ∙ P.values j b)
      (get_or-set_same (error_values es) i _ 0 (omega (arith, values-long es, P.long)) ∙ q) j b;
}

-- ---- what was found

module _ (s : List ℕ) (m all : Marks) (long : length all.places ≡ 6) (L : Locates s m all) (es : List Error) (ep : error_places es ≡ exponents all.places)
    (n : length (error_values es) ≡ 6) (U : FindsValues all.count s (exponents all.places) (error_values es)) where
  few : all.count ≤ 6
  few = omega (arith, L.widened.count, L.widened.few)

  -- values that fit are those that were worked out, and they have the six sums
  fitting : (v ks ys : List ℕ) → Fits (places_in m) s v ks ys → Explains 6 (terms_of es) s
  fitting v ks ys F =
      let e : places_in all ≡ places_in m ++ ks = L.finds v ks ys F in
      let long : length (v ++ ys) ≡ all.count =
      length-append v ys ∙ ap₂ ◌+◌ F.long F.alike ∙ sym (length-append (places_in m) ks) ∙ sym (ap length e)
      ∙ length-take-le all.count (exponents all.places) (omega (arith, few, exponents-long all.places, long)) in
      let same : take all.count (error_values es) ≡ v ++ ys =
      U.finds (v ++ ys) long (subst (λ (l : List ℕ). ByteTerms (terms_at l (v ++ ys))) (sym e) F.bytes) (subst (λ (l : List ℕ). Apart (terms_at l (v ++ ys))) (sym e) F.apart)
      (record { at = λ j h. F.sums.at j (omega (arith, few)) ∙ ap (λ (l : List ℕ). power_sum (terms_at l (v ++ ys)) j) (sym e) }) in
      record {
        at = λ j h. F.sums.at j h ∙ ap₂ (λ (l u : List ℕ). power_sum (terms_at l u) j) (sym e) (sym same) ∙ sym (sum-run j all.count (exponents all.places) (error_values es) U.behind)
            ∙ ap (λ (l : List ℕ). power_sum (terms_at l (error_values es)) j) (sym ep);
      }

  solved-marked : SolvedMarked s m es
  solved-marked = record { all = all; widened = L.widened; places = ep; long = n; behind = U.behind; finds = fitting }

-- errors at the places that were located, with the values that were worked out there
pub solved-paired : (s : List ℕ) (m all : Marks) → length all.places ≡ 6 → Locates s m all → (v : List ℕ) → length v ≡ 6 → FindsValues all.count s (exponents all.places) v
    → (es : List Error) (i : ℕ) → 6 ≤ i → Paired (exponents all.places) v es i → SolvedMarked s m es
solved-paired s m all l L v n U es i h P =
    let ep : error_places es ≡ exponents all.places =
    ext_get_or 0 (error_places es) (exponents all.places) (places-long es ∙ P.long ∙ sym (exponents-long all.places ∙ l)) (λ j b. P.places j (omega (arith, places-long es, P.long))) in
    let ev : error_values es ≡ v = ext_get_or 0 (error_values es) v (values-long es ∙ P.long ∙ sym n) (λ j b. P.values j (omega (arith, values-long es, P.long))) in
    solved-marked s m all l L es ep (ap length ev ∙ n) (subst (FindsValues all.count s (exponents all.places)) (sym ev) U)
