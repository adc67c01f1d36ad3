-- Values at places: the order in which places are killed, and the values that the sums allow.
-- Assumes nothing.
use mathlib.Core.Path.{◌≡◌, refl, sym, ap, ap₂, ◌∙◌, subst}
use mathlib.Core.List.{List, [], ◌∷◌, ◌++◌}
use Prim.Native.Nat.{ℕ, zero, suc, ◌+◌, ◌≤◌, ◌<◌}
use native.Mathlib.Nat.{le_of_suc-le-suc, not-suc-le-zero, zero-lt-suc}
use native.Mathlib.Numerals.{add-one}
use native.Mathlib.Omega.{arith}
use lib.ListN.{length, get_or, set, take, drop, replicate, length-set, drop_of_length-le}
use lib.Seq.{ext_get_or, take-suc, drop-cons, get_or-take, get_or-set_same, get_or-set_other, length-take-le}
use Rattle.gf256.specs.Field.{◌⊕◌, ◌⊗◌, pow, over}
use Rattle.gf256.specs.PowerSum.{Term, power_sum, Without, Apart, ByteTerms, kill}
use Rattle.gf256.proofs.Laws.Sum.{⊕-self, ⊕-assoc, ⊕-zero-l, ⊕-zero-r, ⊕-lt, ⊕-pos}
use Rattle.gf256.proofs.Laws.Product.{⊗-one-r, ⊗-lt, pow-lt, over-unique, over-zero-l}
use Rattle.gf256.proofs.Laws.Lent.{zeros-at}
use Rattle.gf256.proofs.Laws.Ring.{ring}
use Rattle.basics.proofs.Laws.Parts.{same-cons}
use Rattle.basics.proofs.Laws.Test.{below_more}
use Rattle.search.specs.Search.{Explains, terms_at, killed_of}
use Rattle.search.specs.Values.{exponents, killed_by, KillsAll, sum_of, unscaled_of, Unscaled, FindsValues}
use Rattle.search.specs.declared.errors.Place.{Place}
use Rattle.search.proofs.Laws.Moment.{explains-kill}

-- ---- the exponents of places

pub exponents-long : (ps : List Place) → length (exponents ps) ≡ length ps
exponents-long [] = refl
exponents-long (p ∷ ps) = ap suc (exponents-long ps)

pub exponent-at : (ps : List Place) (i : ℕ) (d : Place) → i < length ps → (get_or ps i d).exponent ≡ get_or (exponents ps) i 0
exponent-at [] i d h = absurd (not-suc-le-zero h)
exponent-at (p ∷ ps) zero d h = refl
exponent-at (p ∷ ps) (suc i) d h = exponent-at ps i d (le_of_suc-le-suc h)

pub exponents-set : (ps : List Place) (i : ℕ) (p : Place) → exponents (set ps i p) ≡ set (exponents ps) i p.exponent
exponents-set [] i p = refl
exponents-set (q ∷ ps) zero p = refl
exponents-set (q ∷ ps) (suc i) p = ap (λ (ks : List ℕ). q.exponent ∷ ks) (exponents-set ps i p)

-- ---- the sum of values, a value at a time

pub summed-none : (v : List ℕ) → 0 ⊕ sum_of v ≡ sum_of v
summed-none v = ⊕-zero-l _

pub summed-more : (v : List ℕ) (s r i : ℕ) → i < length v → s ⊕ sum_of (drop i v) ≡ sum_of v → r ≡ s ⊕ get_or v i 0 → r ⊕ sum_of (drop (i + 1) v) ≡ sum_of v
unfolding sum_of
summed-more v s r i h e q =
    ap₂ (λ (a n : ℕ). a ⊕ sum_of (drop n v)) q (add-one i) ∙ ⊕-assoc _ _ _ ∙ ap (λ (w : List ℕ). s ⊕ sum_of w) (sym (drop-cons v i 0 h)) ∙ e

pub summed-all : (v : List ℕ) (s i : ℕ) → length v ≤ i → s ⊕ sum_of (drop i v) ≡ sum_of v → s ≡ sum_of v
unfolding sum_of
summed-all v s i h e = sym (⊕-zero-r s) ∙ ap (λ (w : List ℕ). s ⊕ sum_of w) (sym (drop_of_length-le v {i = i} h)) ∙ e

-- ---- values taken to what they were, a value at a time

length-unscaled : (x : ℕ) (ks v : List ℕ) → length v ≡ length ks → length (unscaled_of x ks v) ≡ length ks
unfolding unscaled_of
length-unscaled x [] v n = refl
length-unscaled x (k ∷ ks) [] n = n
length-unscaled x (k ∷ ks) (y ∷ v) n = ap suc (length-unscaled x ks v (omega arith))

pub unscaled-none : (x : ℕ) (ks v : List ℕ) → Unscaled 0 x ks v v
unscaled-none x ks v = record { long = refl; done = λ i h. absurd (omega arith); rest = λ i h. refl }

pub unscaled-more : (n x : ℕ) (ks v u : List ℕ) (r : ℕ) → n < length v → Unscaled n x ks v u → r ≡ over (get_or u n 0) (pow 2 (get_or ks n 0) ⊕ x)
    → Unscaled (n + 1) x ks v (set u n r)
unscaled-more n x ks v u r h U e = record {
  long = length-set u n r ∙ U.long;
  done = below_more _ n (λ i b. get_or-set_other u n i r 0 (λ z. omega arith) ∙ U.done i b)
      (get_or-set_same u n r 0 (omega (arith, U.long)) ∙ e ∙ ap (λ (y : ℕ). over y (pow 2 (get_or ks n 0) ⊕ x)) (U.rest n (omega arith)));
  rest = λ i b. get_or-set_other u n i r 0 (λ z. omega arith) ∙ U.rest i (omega arith);
}

unscaled-at : (x : ℕ) (ks v : List ℕ) (i : ℕ) → i < length ks → i < length v → get_or (unscaled_of x ks v) i 0 ≡ over (get_or v i 0) (pow 2 (get_or ks i 0) ⊕ x)
unfolding unscaled_of
unscaled-at x [] v i h l = absurd (not-suc-le-zero h)
unscaled-at x (k ∷ ks) [] i h l = absurd (not-suc-le-zero l)
unscaled-at x (k ∷ ks) (y ∷ v) zero h l = refl
unscaled-at x (k ∷ ks) (y ∷ v) (suc i) h l = unscaled-at x ks v i (le_of_suc-le-suc h) (le_of_suc-le-suc l)

pub unscaled-all : (n x : ℕ) (ks v u : List ℕ) → length v ≡ length ks → length v ≤ n → Unscaled n x ks v u → u ≡ unscaled_of x ks v
unscaled-all n x ks v u m h U =
    ext_get_or 0 u (unscaled_of x ks v) (U.long ∙ m ∙ sym (length-unscaled x ks v m))
    (λ i b. U.done i (omega (arith, U.long)) ∙ sym (unscaled-at x ks v i (omega (arith, U.long)) (omega (arith, U.long))))

-- ---- places that are killed

-- the last place is killed last
killed-more : (ks : List ℕ) (k : ℕ) (s : List ℕ) → killed_by (ks ++ (k ∷ [])) s ≡ killed_of (pow 2 k) (killed_by ks s)
unfolding killed_by
killed-more [] k s = refl
killed-more (m ∷ ks) k s = killed-more ks k (killed_of (pow 2 m) s)

-- one place more
killed-next : (places s : List ℕ) (i : ℕ) → i < length places
    → killed_by (take (suc i) places) s ≡ killed_of (pow 2 (get_or places i 0)) (killed_by (take i places) s)
killed-next places s i h = ap (λ (ks : List ℕ). killed_by ks s) (take-suc places i 0 h) ∙ killed-more (take i places) _ s

-- the first sum before each of the first n places was killed
abbrev pub Noted : ℕ → List ℕ → List ℕ → List ℕ → Type 0
Noted n places s firsts = (j : ℕ) → j < n → get_or firsts j 0 ≡ get_or (killed_by (take j places) s) 0 0

-- the first i places are killed
pub record Killing (n : ℕ) (places s firsts left : List ℕ) (i : ℕ) : Type 0 where
  pub within : i ≤ n
  pub long : length firsts ≡ 6
  pub noted : Noted i places s firsts
  pub rest : left ≡ killed_by (take i places) s

-- none yet
pub killing-none : (n : ℕ) (places s firsts : List ℕ) → length firsts ≡ 6 → Killing n places s firsts s 0
unfolding killed_by
killing-none n places s firsts l = record { within = omega arith; long = l; noted = λ j h. absurd (omega arith); rest = refl }

-- one more
pub killing-more : (n : ℕ) (places s firsts left next : List ℕ) (i x : ℕ) → Killing n places s firsts left i → i < n → n ≤ 6 → length places ≡ 6
    → x ≡ pow 2 (get_or places i 0) → next ≡ killed_of x left → Killing n places s (set firsts i (get_or left 0 0)) next (i + 1)
killing-more n places s firsts left next i x K h l p ex e = record {
  within = omega arith;
  long = length-set firsts i _ ∙ K.long;
  noted = below_more _ i (λ j b. get_or-set_other firsts i j _ 0 (λ q. omega arith) ∙ K.noted j b)
      (get_or-set_same firsts i _ 0 (omega (arith, K.long)) ∙ ap (λ (l : List ℕ). get_or l 0 0) K.rest);
  rest = e ∙ ap₂ killed_of ex K.rest ∙ sym (killed-next places s i (omega arith)) ∙ ap (λ (m : ℕ). killed_by (take m places) s) (sym (add-one i));
}

-- all of them
pub killing-all : (n : ℕ) (places s firsts left : List ℕ) (i : ℕ) → Killing n places s firsts left i → n ≤ i
    → KillsAll n places s (record { firsts = firsts; left = left })
killing-all n places s firsts left i K h =
    let e : i ≡ n = omega (arith, K.within) in
    record { firsts = λ j b. K.noted j (omega arith); left = K.rest ∙ ap (λ (m : ℕ). killed_by (take m places) s) e }

-- ---- the values that the sums allow

-- what the values behind a place leave of the first sum, before them
unfoldable pub with_first : ℕ → List ℕ → List ℕ
with_first a v = a ⊕ sum_of v ∷ v

-- the values at the places, from the last to the first
unfoldable pub values_of : List ℕ → List ℕ → List ℕ
values_of [] s = []
values_of (k ∷ ks) s = with_first (get_or s 0 0) (unscaled_of (pow 2 k) ks (values_of ks (killed_of (pow 2 k) s)))

-- values at places, as they are once x is killed
unfoldable pub scaled_of : ℕ → List ℕ → List ℕ → List ℕ
scaled_of x [] v = []
scaled_of x (k ∷ ks) [] = []
scaled_of x (k ∷ ks) (y ∷ v) = y ⊗ (pow 2 k ⊕ x) ∷ scaled_of x ks v

pub length-scaled : (x : ℕ) (ks v : List ℕ) → length v ≡ length ks → length (scaled_of x ks v) ≡ length ks
unfolding scaled_of
length-scaled x [] v n = refl
length-scaled x (k ∷ ks) [] n = n
length-scaled x (k ∷ ks) (y ∷ v) n = ap suc (length-scaled x ks v (omega arith))

-- to kill x scales the values
kill-terms : (x : ℕ) (ks v : List ℕ) → kill x (terms_at ks v) ≡ terms_at ks (scaled_of x ks v)
unfolding scaled_of
kill-terms x [] v = refl
kill-terms x (k ∷ ks) [] = refl
kill-terms x (k ∷ ks) (y ∷ v) = ap (λ (es : List Term). record { X = pow 2 k; Y = y ⊗ (pow 2 k ⊕ x) } ∷ es) (kill-terms x ks v)

-- scaled values are bytes, and their terms stay apart
bytes-scaled : (x : ℕ) (ks v : List ℕ) → ByteTerms (terms_at ks (scaled_of x ks v))
unfolding scaled_of
bytes-scaled x [] v = tt
bytes-scaled x (k ∷ ks) [] = tt
bytes-scaled x (k ∷ ks) (y ∷ v) = (pow-lt 2 k, ⊗-lt _ _, bytes-scaled x ks v)

without-scaled : (x z : ℕ) (ks v : List ℕ) → Without z (terms_at ks v) → Without z (terms_at ks (scaled_of x ks v))
unfolding scaled_of
without-scaled x z [] v w = tt
without-scaled x z (k ∷ ks) [] w = tt
without-scaled x z (k ∷ ks) (y ∷ v) w = (w.0, without-scaled x z ks v w.1)

pub apart-scaled : (x : ℕ) (ks v : List ℕ) → Apart (terms_at ks v) → Apart (terms_at ks (scaled_of x ks v))
unfolding scaled_of
apart-scaled x [] v a = tt
apart-scaled x (k ∷ ks) [] a = tt
apart-scaled x (k ∷ ks) (y ∷ v) a = (without-scaled x (pow 2 k) ks v a.0, apart-scaled x ks v a.1)

-- back again
unscaled-scaled : (x : ℕ) (ks v : List ℕ) → x < 256 → length v ≡ length ks → ByteTerms (terms_at ks v) → Without x (terms_at ks v)
    → unscaled_of x ks (scaled_of x ks v) ≡ v
unfolding scaled_of unscaled_of
unscaled-scaled x [] [] h n b w = refl
unscaled-scaled x [] (y ∷ v) h n b w = absurd (omega arith)
unscaled-scaled x (k ∷ ks) [] h n b w = refl
unscaled-scaled x (k ∷ ks) (y ∷ v) h n b w =
    same-cons (over-unique _ _ y (⊕-pos _ _ w.0) (⊕-lt _ _ (pow-lt 2 k) h) b.1 refl) (unscaled-scaled x ks v h (omega arith) b.2 w.1)

-- the first sum is that of the values
first-sum : (ks v : List ℕ) → length v ≡ length ks → ByteTerms (terms_at ks v) → power_sum (terms_at ks v) 0 ≡ sum_of v
unfolding power_sum pow sum_of
first-sum [] [] n b = refl
first-sum [] (y ∷ v) n b = absurd (omega arith)
first-sum (k ∷ ks) [] n b = refl
first-sum (k ∷ ks) (y ∷ v) n b = ap₂ ◌⊕◌ (⊗-one-r y b.1) (first-sum ks v (omega arith) b.2)

twice : (y z : ℕ) → y ⊕ z ⊕ z ≡ y
twice y z = simp ring

-- the head is what the others leave of the first sum
head-right : (k y : ℕ) (ks v s u : List ℕ) → length v ≡ length ks → y < 256 → ByteTerms (terms_at ks v) → get_or s 0 0 ≡ power_sum (terms_at (k ∷ ks) (y ∷ v)) 0
    → u ≡ v → with_first (get_or s 0 0) u ≡ y ∷ v
unfolding with_first power_sum pow
head-right k y ks v s u n h b e q =
    ap (with_first (get_or s 0 0)) q
    ∙ same-cons (ap (λ (z : ℕ). z ⊕ sum_of v) (e ∙ ap₂ ◌⊕◌ (⊗-one-r y h) (first-sum ks v n b)) ∙ twice y (sum_of v)) refl

-- killing the first place leaves the others, scaled, and one sum fewer
pub explains-scaled : (n k y : ℕ) (ks v s : List ℕ) → n ≤ 5 → Explains (suc n) (terms_at (k ∷ ks) (y ∷ v)) s
    → Explains n (terms_at ks (scaled_of (pow 2 k) ks v)) (killed_of (pow 2 k) s)
explains-scaled n k y ks v s l E =
    subst (λ (es : List Term). Explains n es (killed_of (pow 2 k) s)) (kill-terms (pow 2 k) ks v) (explains-kill n _ (terms_at ks v) s l E)

-- values that explain as many sums as there are places are the values
values-right : (ks y s : List ℕ) → length y ≡ length ks → length ks ≤ 6 → ByteTerms (terms_at ks y) → Apart (terms_at ks y)
    → Explains (length ks) (terms_at ks y) s → values_of ks s ≡ y
unfolding values_of
values-right [] [] s n l b a E = refl
values-right [] (y ∷ v) s n l b a E = absurd (omega arith)
values-right (k ∷ ks) [] s n l b a E = absurd (omega arith)
values-right (k ∷ ks) (y ∷ v) s n l b a E =
    head-right k y ks v s _ (omega arith) b.1 b.2 (E.at 0 (zero-lt-suc _))
    (ap (unscaled_of (pow 2 k) ks)
    (values-right ks (scaled_of (pow 2 k) ks v) (killed_of (pow 2 k) s) (length-scaled (pow 2 k) ks v (omega arith)) (omega arith) (bytes-scaled (pow 2 k) ks v) (apart-scaled (pow 2 k) ks v a.1) (explains-scaled (length ks) k y ks v s (omega arith) E))
    ∙ unscaled-scaled (pow 2 k) ks v (pow-lt 2 k) (omega arith) b.2 a.0)

-- ---- the values, a place at a time

unscaled-nil : (x : ℕ) (ks : List ℕ) → unscaled_of x ks [] ≡ []
unfolding unscaled_of
unscaled-nil x [] = refl
unscaled-nil x (k ∷ ks) = refl

-- the values of a run of places
unscaled-take : (x n : ℕ) (ks v : List ℕ) → take n (unscaled_of x ks v) ≡ unscaled_of x (take n ks) (take n v)
unfolding unscaled_of
unscaled-take x zero ks v = refl
unscaled-take x (suc n) [] v = refl
unscaled-take x (suc n) (k ∷ ks) [] = refl
unscaled-take x (suc n) (k ∷ ks) (y ∷ v) = same-cons refl (unscaled-take x n ks v)

unscaled-drop : (x n : ℕ) (ks v : List ℕ) → drop n (unscaled_of x ks v) ≡ unscaled_of x (drop n ks) (drop n v)
unfolding unscaled_of
unscaled-drop x zero ks v = refl
unscaled-drop x (suc n) [] v = refl
unscaled-drop x (suc n) (k ∷ ks) [] = sym (unscaled-nil x (drop n ks))
unscaled-drop x (suc n) (k ∷ ks) (y ∷ v) = unscaled-drop x n ks v

-- a value of 0 was 0
unscaled-zero : (x : ℕ) (ks v : List ℕ) (j : ℕ) → get_or v j 0 ≡ 0 → get_or (unscaled_of x ks v) j 0 ≡ 0
unfolding unscaled_of
unscaled-zero x [] v j e = refl
unscaled-zero x (k ∷ ks) [] j e = refl
unscaled-zero x (k ∷ ks) (y ∷ v) zero e = ap (λ (z : ℕ). over z (pow 2 k ⊕ x)) e ∙ over-zero-l _
unscaled-zero x (k ∷ ks) (y ∷ v) (suc j) e = unscaled-zero x ks v j e

-- zeros add nothing
sum_zeros : (v : List ℕ) → ((j : ℕ) → get_or v j 0 ≡ 0) → sum_of v ≡ 0
unfolding sum_of
sum_zeros [] z = refl
sum_zeros (y ∷ v) z = ap₂ ◌⊕◌ (z 0) (sum_zeros v (λ j. z (suc j))) ∙ ⊕-self 0

-- a run with zeros around it has the whole sum
sum-take : (n : ℕ) (v : List ℕ) → ((j : ℕ) → n ≤ j → get_or v j 0 ≡ 0) → sum_of v ≡ sum_of (take n v)
unfolding sum_of
sum-take zero v z = sum_zeros v (λ j. z j (omega arith))
sum-take (suc n) [] z = refl
sum-take (suc n) (y ∷ v) z = ap (◌⊕◌ y) (sum-take n v (λ j h. z (suc j) (omega arith)))

sum_drop : (i : ℕ) (v : List ℕ) → ((j : ℕ) → j < i → get_or v j 0 ≡ 0) → sum_of v ≡ sum_of (drop i v)
unfolding sum_of
sum_drop zero v z = refl
sum_drop (suc i) [] z = refl
sum_drop (suc i) (y ∷ v) z = ap (λ (a : ℕ). a ⊕ sum_of v) (z 0 (zero-lt-suc i)) ∙ ⊕-zero-l _ ∙ sum_drop i v (λ j h. z (suc j) (omega arith))

-- what is set stands before what is behind it
set-part : (n m : ℕ) (u : List ℕ) (a : ℕ) → m < n → m < length u → drop m (take n (set u m a)) ≡ a ∷ drop (suc m) (take n u)
set-part zero m u a h l = absurd (not-suc-le-zero h)
set-part (suc n) zero [] a h l = absurd (not-suc-le-zero l)
set-part (suc n) zero (y ∷ u) a h l = refl
set-part (suc n) (suc m) [] a h l = absurd (not-suc-le-zero l)
set-part (suc n) (suc m) (y ∷ u) a h l = set-part n m u a (le_of_suc-le-suc h) (le_of_suc-le-suc l)

-- the values from place i on stand, and no others
pub record Valued (n : ℕ) (s places v : List ℕ) (i : ℕ) : Type 0 where
  pub long : length v ≡ length places
  pub before : (j : ℕ) → j < i → get_or v j 0 ≡ 0
  pub behind : (j : ℕ) → n ≤ j → get_or v j 0 ≡ 0
  pub right : drop i (take n v) ≡ values_of (drop i (take n places)) (killed_by (take i places) s)

none_left : (n : ℕ) (v : List ℕ) → drop n (take n v) ≡ []
none_left zero v = refl
none_left (suc n) [] = refl
none_left (suc n) (y ∷ v) = none_left n v

-- none yet: all are 0
pub valued-none : (n : ℕ) (s places : List ℕ) → length places ≡ 6 → Valued n s places (replicate 6 0) n
unfolding values_of
valued-none n s places l = record {
  long = sym l;
  before = λ j h. zeros-at 6 j;
  behind = λ j h. zeros-at 6 j;
  right = none_left n (replicate 6 0) ∙ sym (ap (λ (ks : List ℕ). values_of ks (killed_by (take n places) s)) (none_left n places));
}

-- the values behind a place, as they were before it was killed, and its own before them
values-cons : (k : ℕ) (ks s w : List ℕ) → w ≡ unscaled_of (pow 2 k) ks (values_of ks (killed_of (pow 2 k) s)) → get_or s 0 0 ⊕ sum_of w ∷ w ≡ values_of (k ∷ ks) s
unfolding values_of with_first
values-cons k ks s w e = ap (with_first (get_or s 0 0)) e

-- one place fewer from the front
places-from : (n m : ℕ) (places : List ℕ) → m < n → n ≤ length places → drop m (take n places) ≡ get_or places m 0 ∷ drop (suc m) (take n places)
places-from n m places h l =
    drop-cons (take n places) m 0 (rw (length-take-le n places l) h) ∙ same-cons (get_or-take n places m 0 h) refl

module _ (n : ℕ) (s places v u : List ℕ) (m x : ℕ) (h : m < n) (l : n ≤ length places) (ex : x ≡ pow 2 (get_or places m 0)) (eu : u ≡ unscaled_of x places v)
    (W : Valued n s places v (suc m)) where
  zero-at : (j : ℕ) → get_or v j 0 ≡ 0 → get_or u j 0 ≡ 0
  zero-at j e = ap (λ (w : List ℕ). get_or w j 0) eu ∙ unscaled-zero x places v j e

  -- only the values behind the place add to the sum
  part-sum : sum_of u ≡ sum_of (drop (suc m) (take n u))
  part-sum =
      sum-take n u (λ j b. zero-at j (W.behind j b))
      ∙ sum_drop (suc m) (take n u) (λ j b. get_or-take n u j 0 (omega arith) ∙ zero-at j (W.before j b))

  -- and they are right
  part_right : drop (suc m) (take n u)
      ≡ unscaled_of (pow 2 (get_or places m 0)) (drop (suc m) (take n places)) (values_of (drop (suc m) (take n places)) (killed_of (pow 2 (get_or places m 0)) (killed_by (take m places) s)))
  part_right =
      ap (λ (w : List ℕ). drop (suc m) (take n w)) eu ∙ ap (drop (suc m)) (unscaled-take x n places v) ∙ unscaled-drop x (suc m) (take n places) (take n v)
      ∙ ap₂ (λ (y : ℕ) (w : List ℕ). unscaled_of y (drop (suc m) (take n places)) w) ex
      (W.right ∙ ap (values_of (drop (suc m) (take n places))) (killed-next places s m (omega arith)))

  length_part : length u ≡ length places
  length_part = ap length eu ∙ length-unscaled x places v W.long

  -- one more
  pub valued-more : (firsts : List ℕ) (z r : ℕ) → Noted n places s firsts → z ≡ sum_of u → r ≡ get_or firsts m 0 ⊕ z → Valued n s places (set u m r) m
  valued-more firsts z r F ez er = record {
    long = length-set u m r ∙ length_part;
    before = λ j b. get_or-set_other u m j r 0 (λ q. omega arith) ∙ zero-at j (W.before j (omega arith));
    behind = λ j b. get_or-set_other u m j r 0 (λ q. omega arith) ∙ zero-at j (W.behind j b);
    right = set-part n m u r h (omega (arith, length_part)) ∙ same-cons (er ∙ ap₂ ◌⊕◌ (F m h) (ez ∙ part-sum)) refl
        ∙ values-cons (get_or places m 0) (drop (suc m) (take n places)) (killed_by (take m places) s) _ part_right
        ∙ ap (λ (ks : List ℕ). values_of ks (killed_by (take m places) s)) (sym (places-from n m places h l));
  }

-- all of them
pub valued-all : (n : ℕ) (s places v : List ℕ) (i : ℕ) → n ≤ 6 → n ≤ length places → i ≡ 0 → Valued n s places v i → FindsValues n s places v
unfolding killed_by
valued-all n s places v i h l z W =
    let m : length (take n places) ≡ n = length-take-le n places l in
    let r : take n v ≡ values_of (take n places) s =
    subst (λ (k : ℕ). drop k (take n v) ≡ values_of (drop k (take n places)) (killed_by (take k places) s)) z W.right in
    record {
      behind = W.behind;
      finds = λ y e b a E.
          r ∙ values-right (take n places) y s (e ∙ sym m) (omega arith) b a (subst (λ (k : ℕ). Explains k (terms_at (take n places) y) s) (sym m) E);
    }
