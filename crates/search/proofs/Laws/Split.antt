-- What a block lacks to a codeword, split by marks: the values at the marked places, and the errors at the others.
-- Assumes nothing.
use mathlib.Core.Path.{◌≡◌, refl, sym, ap, ap₂, ◌∙◌, subst}
use mathlib.Core.Bool.{Bool, true, false}
use mathlib.Core.List.{List, [], ◌∷◌, ◌++◌}
use Prim.Native.Nat.{ℕ, zero, suc, ◌+◌, ◌≤◌, ◌<◌}
use native.Mathlib.Nat.{suc_inj, zero-lt-suc}
use native.Mathlib.Omega.{arith}
use lib.ListN.{length, get_or}
use Rattle.gf256.specs.Field.{◌⊕◌, ◌⊗◌, pow}
use Rattle.gf256.specs.PowerSum.{Term, power_sum, Without, Apart, ByteTerms}
use Rattle.gf256.proofs.Laws.Sum.{⊕-zero-l, ⊕-self, ⊕-pos}
use Rattle.gf256.proofs.Laws.Product.{⊗-zero-l, pow-lt, pow-swap, pow-inj}
use Rattle.gf256.proofs.Laws.Ring.{ring}
use Rattle.basics.specs.Below.{Below, Bytes}
use Rattle.rs.specs.Polynomial.{value_at, ◌⊞◌}
use Rattle.rs.specs.Marked.{marks_in, errors, cost}
use Rattle.rs.proofs.Laws.Polynomial.{⊞-bytes, length-⊞}
use Rattle.rs.proofs.Laws.Distance.{place}
use Rattle.search.specs.Search.{term, terms_at}
use Rattle.search.specs.SearchMarked.{places_of, Descending, NoZero, Fits}

-- ---- the parts

-- the entries at the marked places
abbrev pub values_in : List Bool → List ℕ → List ℕ
values_in [] l = []
values_in (mark ∷ marks) [] = []
values_in (true ∷ marks) (b ∷ l) = b ∷ values_in marks l
values_in (false ∷ marks) (b ∷ l) = values_in marks l

-- the exponents of the entries past 0 at the others
abbrev pub other_places : List Bool → List ℕ → List ℕ
other_places [] l = []
other_places (mark ∷ marks) [] = []
other_places (true ∷ marks) (b ∷ l) = other_places marks l
other_places (false ∷ marks) (zero ∷ l) = other_places marks l
other_places (false ∷ marks) (suc b ∷ l) = length l ∷ other_places marks l

-- and these entries
abbrev pub other_values : List Bool → List ℕ → List ℕ
other_values [] l = []
other_values (mark ∷ marks) [] = []
other_values (true ∷ marks) (b ∷ l) = other_values marks l
other_values (false ∷ marks) (zero ∷ l) = other_values marks l
other_values (false ∷ marks) (suc b ∷ l) = suc b ∷ other_values marks l

-- ---- how many they are

places-length : (marks : List Bool) → length (places_of marks) ≡ marks_in marks
unfolding places_of marks_in
places-length [] = refl
places-length (true ∷ marks) = omega (arith, places-length marks)
places-length (false ∷ marks) = omega (arith, places-length marks)

values_length : (marks : List Bool) (l : List ℕ) → length marks ≡ length l → length (values_in marks l) ≡ length (places_of marks)
unfolding places_of
values_length [] l e = refl
values_length (mark ∷ marks) [] e = absurd (omega arith)
values_length (true ∷ marks) (b ∷ l) e = ap suc (values_length marks l (suc_inj e))
values_length (false ∷ marks) (b ∷ l) e = values_length marks l (suc_inj e)

others-length : (marks : List Bool) (l : List ℕ) → length (other_values marks l) ≡ length (other_places marks l)
others-length [] l = refl
others-length (mark ∷ marks) [] = refl
others-length (true ∷ marks) (b ∷ l) = others-length marks l
others-length (false ∷ marks) (zero ∷ l) = others-length marks l
others-length (false ∷ marks) (suc b ∷ l) = ap suc (others-length marks l)

-- one place without a mark
other-one : (marks : List Bool) (x : ℕ) (l : List ℕ) → 0 < x → length (other_places (false ∷ marks) (x ∷ l)) ≡ 1 + length (other_places marks l)
other-one marks zero l h = absurd (omega arith)
other-one marks (suc x) l h = omega arith

other_none : (marks : List Bool) (x : ℕ) (l : List ℕ) → x ≡ 0 → length (other_places (false ∷ marks) (x ∷ l)) ≡ length (other_places marks l)
other_none marks zero l e = refl
other_none marks (suc x) l e = absurd (omega arith)

-- as many as the errors
others-errors : (marks : List Bool) (c r : List ℕ) → length marks ≡ length c → length c ≡ length r → length (other_places marks (c ⊞ r)) ≡ errors marks c r
unfolding errors ◌⊞◌
others-errors [] [] r em e = refl
others-errors [] (a ∷ c) r em e = absurd (omega arith)
others-errors (mark ∷ marks) [] r em e = absurd (omega arith)
others-errors (mark ∷ marks) (a ∷ c) [] em e = absurd (omega arith)
others-errors (true ∷ marks) (a ∷ c) (b ∷ r) em e = others-errors marks c r (suc_inj em) (suc_inj e)
others-errors (false ∷ marks) (a ∷ c) (b ∷ r) em e =
    place (λ d. length (other_places (false ∷ marks) (a ⊕ b ∷ (c ⊞ r))) ≡ d + errors marks c r) a b
    (λ q. other_none marks (a ⊕ b) (c ⊞ r) (ap (λ (x : ℕ). x ⊕ b) q ∙ ⊕-self b) ∙ omega (arith, others-errors marks c r (suc_inj em) (suc_inj e)))
    (λ n. other-one marks (a ⊕ b) (c ⊞ r) (⊕-pos a b n) ∙ ap (◌+◌ 1) (others-errors marks c r (suc_inj em) (suc_inj e)))

-- ---- their order, and that they are bytes

others-falling : (n : ℕ) (marks : List Bool) (l : List ℕ) → length l ≤ n → Descending n (other_places marks l)
others-falling n [] l h = tt
others-falling n (mark ∷ marks) [] h = tt
others-falling n (true ∷ marks) (b ∷ l) h = others-falling n marks l (omega arith)
others-falling n (false ∷ marks) (zero ∷ l) h = others-falling n marks l (omega arith)
others-falling n (false ∷ marks) (suc b ∷ l) h = (omega arith, others-falling (length l) marks l (omega arith))

others-no-zero : (marks : List Bool) (l : List ℕ) → Bytes l → NoZero (other_values marks l)
others-no-zero [] l b = tt
others-no-zero (mark ∷ marks) [] b = tt
others-no-zero (true ∷ marks) (x ∷ l) b = others-no-zero marks l b.1
others-no-zero (false ∷ marks) (zero ∷ l) b = others-no-zero marks l b.1
others-no-zero (false ∷ marks) (suc x ∷ l) b = (zero-lt-suc x, b.0, others-no-zero marks l b.1)

-- ---- the terms of both parts

terms-append : (a b u v : List ℕ) → length u ≡ length a → terms_at (a ++ b) (u ++ v) ≡ terms_at a u ++ terms_at b v
terms-append [] b [] v e = refl
terms-append [] b (y ∷ u) v e = absurd (omega arith)
terms-append (k ∷ a) b [] v e = absurd (omega arith)
terms-append (k ∷ a) b (y ∷ u) v e = ap (λ (es : List Term). term k y ∷ es) (terms-append a b u v (suc_inj e))

sum-append : (es fs : List Term) (j : ℕ) → power_sum (es ++ fs) j ≡ power_sum es j ⊕ power_sum fs j
unfolding power_sum
sum-append [] fs j = sym (⊕-zero-l _)
sum-append (e ∷ es) fs j = ap (◌⊕◌ (e.Y ⊗ pow e.X j)) (sum-append es fs j) ∙ regroup _ _ _
  where
    regroup : (a b c : ℕ) → a ⊕ (b ⊕ c) ≡ a ⊕ b ⊕ c
    regroup a b c = simp ring

-- the terms at the marked places, and those at the others
abbrev marked-terms : List Bool → List ℕ → List Term
marked-terms marks l = terms_at (places_of marks) (values_in marks l)

abbrev other-terms : List Bool → List ℕ → List Term
other-terms marks l = terms_at (other_places marks l) (other_values marks l)

module _ (j : ℕ) where
  first-ring : (t a b : ℕ) → t ⊕ a ⊕ b ≡ t ⊕ (a ⊕ b)
  first-ring t a b = simp ring

  second-ring : (t a b : ℕ) → a ⊕ (t ⊕ b) ≡ t ⊕ (a ⊕ b)
  second-ring t a b = simp ring

  -- together they have the values of the list
  split-sum : (marks : List Bool) (l : List ℕ) → length marks ≡ length l
      → power_sum (marked-terms marks l) j ⊕ power_sum (other-terms marks l) j ≡ value_at (pow 2 j) l
  unfolding power_sum value_at places_of
  split-sum [] [] e = ⊕-self 0
  split-sum [] (b ∷ l) e = absurd (omega arith)
  split-sum (mark ∷ marks) [] e = absurd (omega arith)
  split-sum (true ∷ marks) (b ∷ l) e =
      first-ring _ _ _
      ∙ ap₂ (λ (p z : ℕ). b ⊗ p ⊕ z) (pow-swap 2 (length marks) j ∙ ap (pow (pow 2 j)) (suc_inj e)) (split-sum marks l (suc_inj e))
  split-sum (false ∷ marks) (zero ∷ l) e = split-sum marks l (suc_inj e) ∙ sym (ap (λ (z : ℕ). z ⊕ value_at (pow 2 j) l) (⊗-zero-l _) ∙ ⊕-zero-l _)
  split-sum (false ∷ marks) (suc b ∷ l) e = second-ring _ _ _ ∙ ap₂ (λ (p z : ℕ). suc b ⊗ p ⊕ z) (pow-swap 2 (length l) j) (split-sum marks l (suc_inj e))

-- ---- no two of them stand at one place

-- exponents below n
pub places-below : (marks : List Bool) (n : ℕ) → length marks ≤ n → Below n (places_of marks)
unfolding places_of
places-below [] n h = tt
places-below (true ∷ marks) n h = (h, places-below marks n (omega arith))
places-below (false ∷ marks) n h = places-below marks n (omega arith)

others_below : (marks : List Bool) (l : List ℕ) (n : ℕ) → length l ≤ n → Below n (other_places marks l)
others_below [] l n h = tt
others_below (mark ∷ marks) [] n h = tt
others_below (true ∷ marks) (b ∷ l) n h = others_below marks l n (omega arith)
others_below (false ∷ marks) (zero ∷ l) n h = others_below marks l n (omega arith)
others_below (false ∷ marks) (suc b ∷ l) n h = (h, others_below marks l n (omega arith))

below-without : (n : ℕ) (ks v : List ℕ) → n < 255 → Below n ks → Without (pow 2 n) (terms_at ks v)
below-without n [] v h b = tt
below-without n (k ∷ ks) [] h b = tt
below-without n (k ∷ ks) (y ∷ v) h b =
    ((λ e. let z : k ≡ n = pow-inj k n (let q = b.0 in omega arith) h e in let q = b.0 in omega arith), below-without n ks v h b.1)

without-append : (x : ℕ) (es fs : List Term) → Without x es → Without x fs → Without x (es ++ fs)
without-append x [] fs a b = b
without-append x (e ∷ es) fs a b = (a.0, without-append x es fs a.1 b)

-- a term more that stands elsewhere
without-insert : (x : ℕ) (es fs : List Term) (t : Term) → (t.X ≡ x → ⊥) → Without x (es ++ fs) → Without x (es ++ (t ∷ fs))
without-insert x [] fs t n w = (n, w)
without-insert x (e ∷ es) fs t n w = (w.0, without-insert x es fs t n w.1)

-- a term more between the two parts
apart-insert : (es fs : List Term) (t : Term) → Without t.X es → Without t.X fs → Apart (es ++ fs) → Apart (es ++ (t ∷ fs))
apart-insert [] fs t a b h = (b, h)
apart-insert (e ∷ es) fs t a b h = (without-insert e.X es fs t (λ q. a.0 (sym q)) h.0, apart-insert es fs t a.1 b h.1)

split-apart : (marks : List Bool) (l : List ℕ) → length marks ≡ length l → length l ≤ 255 → Apart (marked-terms marks l ++ other-terms marks l)
unfolding places_of
split-apart [] l e h = tt
split-apart (mark ∷ marks) [] e h = absurd (omega arith)
split-apart (true ∷ marks) (b ∷ l) e h = (
  without-append (pow 2 (length marks)) (marked-terms marks l) (other-terms marks l) (below-without (length marks) (places_of marks) (values_in marks l) (omega arith) (places-below marks (length marks) (omega arith)))
      (below-without (length marks) (other_places marks l) (other_values marks l) (omega arith) (others_below marks l (length marks) (omega arith))),
  split-apart marks l (suc_inj e) (omega arith),
)
split-apart (false ∷ marks) (zero ∷ l) e h = split-apart marks l (suc_inj e) (omega arith)
split-apart (false ∷ marks) (suc b ∷ l) e h =
    apart-insert (marked-terms marks l) (other-terms marks l) (term (length l) (suc b))
    (below-without (length l) (places_of marks) (values_in marks l) (omega arith) (places-below marks (length l) (omega arith)))
    (below-without (length l) (other_places marks l) (other_values marks l) (omega arith) (others_below marks l (length l) (omega arith))) (split-apart marks l (suc_inj e) (omega arith))

-- ---- they are bytes

bytes-append : (es fs : List Term) → ByteTerms es → ByteTerms fs → ByteTerms (es ++ fs)
bytes-append [] fs a b = b
bytes-append (e ∷ es) fs a b = (a.0, a.1, bytes-append es fs a.2 b)

pub terms-bytes : (ks v : List ℕ) → Bytes v → ByteTerms (terms_at ks v)
terms-bytes [] v b = tt
terms-bytes (k ∷ ks) [] b = tt
terms-bytes (k ∷ ks) (y ∷ v) b = (pow-lt 2 k, b.0, terms-bytes ks v b.1)

values-bytes : (marks : List Bool) (l : List ℕ) → Bytes l → Bytes (values_in marks l)
values-bytes [] l b = tt
values-bytes (mark ∷ marks) [] b = tt
values-bytes (true ∷ marks) (x ∷ l) b = (b.0, values-bytes marks l b.1)
values-bytes (false ∷ marks) (x ∷ l) b = values-bytes marks l b.1

no-zero-bytes : (v : List ℕ) → NoZero v → Bytes v
no-zero-bytes [] n = tt
no-zero-bytes (y ∷ v) n = (n.1, no-zero-bytes v n.2)

-- ---- what a block lacks to a codeword fits

pub lack-fits : (marks : List Bool) (c r s : List ℕ) → length marks ≡ 254 → length c ≡ 254 → length r ≡ 254 → Bytes c → Bytes r
    → ((j : ℕ) → j < 6 → get_or s j 0 ≡ value_at (pow 2 j) (c ⊞ r)) → cost marks c r ≤ 6
    → Fits (places_of marks) s (values_in marks (c ⊞ r)) (other_places marks (c ⊞ r)) (other_values marks (c ⊞ r))
lack-fits marks c r s em ec er bc br es h =
    let d : List ℕ = c ⊞ r in
    let e : length c ≡ length r = ec ∙ sym er in
    let long : length d ≡ 254 = length-⊞ c r e ∙ er in
    let b : Bytes d = ⊞-bytes c r bc br in
    let even : length marks ≡ length d = em ∙ sym long in
    let join = terms-append (places_of marks) (other_places marks d) (values_in marks d) (other_values marks d) (values_length marks d even) in
    record {
      long = values_length marks d even;
      alike = others-length marks d;
      falling = others-falling 254 marks d (omega arith);
      errors = others-no-zero marks d b;
      few = omega (arith, others-errors marks c r (em ∙ sym ec) e, places-length marks);
      apart = subst Apart (sym join) (split-apart marks d even (omega arith));
      bytes = subst ByteTerms (sym join) (bytes-append (marked-terms marks d) (other-terms marks d) (terms-bytes (places_of marks) (values_in marks d) (values-bytes marks d b)) (terms-bytes (other_places marks d) (other_values marks d) (no-zero-bytes (other_values marks d) (others-no-zero marks d b))));
      sums = record { at = λ j i. es j i ∙ sym (split-sum j marks d even) ∙ sym (sum-append (marked-terms marks d) (other-terms marks d) j) ∙ sym (ap (λ (t : List Term). power_sum t j) join) };
    }
