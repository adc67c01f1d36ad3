-- Where errors can be beside the marked places: the marked places are killed, and what is left of the sums tells of one error, of two, or of none.
-- Assumes nothing.
use mathlib.Core.Path.{◌≡◌, refl, sym, ap, ◌∙◌, subst}
use mathlib.Core.Bool.{Bool, true, false, not, ◌&&◌}
use mathlib.Core.List.{List, [], ◌∷◌, ◌++◌, append_assoc, append-nil}
use Prim.Native.Nat.{ℕ, suc, ◌+◌, ◌-◌, ◌≤◌, ◌<◌}
use native.Mathlib.Nat.{suc_inj}
use native.Mathlib.Omega.{arith}
use borrow.Author.Tests.{le-leb, leb-true, eq-eqb, ne_eqb}
use lib.Dec.{leb, eqb}
use lib.ListN.{length, get_or}
use lib.Seq.{length-take-le}
use Rattle.basics.proofs.Laws.Test.{both_true, never}
use Rattle.gf256.specs.Field.{◌⊕◌, ◌⊗◌, pow}
use Rattle.gf256.specs.PowerSum.{power_sum, Without, Apart}
use Rattle.gf256.proofs.Laws.Sum.{⊕-lt, ⊕-pos}
use Rattle.gf256.proofs.Laws.Product.{⊗-lt, ⊗-pos, pow-lt}
use Rattle.gf256.proofs.Laws.Ring.{ring}
use Rattle.std.specs.Prelude.{Option, Some, None, IsSomeAnd}
use Rattle.search.specs.Search.{term, error_places, terms_at, Explains, killed_of, Are, FindsOne, FindsTwo}
use Rattle.search.specs.Values.{exponents, killed_by}
use Rattle.search.specs.SearchMarked.{places_in, OneMore, NoZero, Fits, Locates}
use Rattle.search.specs.declared.errors.Marks.{Marks}
use Rattle.search.specs.declared.errors.Error.{Error}
use Rattle.search.proofs.Laws.Errors.{place-at}
use Rattle.search.proofs.Laws.Moment.{explained-one}
use Rattle.search.proofs.Laws.Two.{D-pos}
use Rattle.search.proofs.Laws.Values.{exponents-long, scaled_of, length-scaled, apart-scaled, explains-scaled}

-- ---- killing places leaves the errors elsewhere, each with another value but 0

scaled-append : (x : ℕ) (a b u v : List ℕ) → length u ≡ length a → scaled_of x (a ++ b) (u ++ v) ≡ scaled_of x a u ++ scaled_of x b v
unfolding scaled_of
scaled-append x [] b [] v e = refl
scaled-append x [] b (y ∷ u) v e = absurd (omega arith)
scaled-append x (k ∷ a) b [] v e = absurd (omega arith)
scaled-append x (k ∷ a) b (y ∷ u) v e = ap (λ (l : List ℕ). y ⊗ (pow 2 k ⊕ x) ∷ l) (scaled-append x a b u v (suc_inj e))

-- what stands behind is without it too
without-behind : (x : ℕ) (a b u v : List ℕ) → length u ≡ length a → Without x (terms_at (a ++ b) (u ++ v)) → Without x (terms_at b v)
without-behind x [] b [] v e w = w
without-behind x [] b (y ∷ u) v e w = absurd (omega arith)
without-behind x (k ∷ a) b [] v e w = absurd (omega arith)
without-behind x (k ∷ a) b (y ∷ u) v e w = without-behind x a b u v (suc_inj e) w.1

scaled-no-zero : (x : ℕ) (ks ys : List ℕ) → x < 256 → Without x (terms_at ks ys) → NoZero ys → length ys ≡ length ks → NoZero (scaled_of x ks ys)
unfolding scaled_of
scaled-no-zero x [] ys h w n e = tt
scaled-no-zero x (k ∷ ks) [] h w n e = absurd (omega arith)
scaled-no-zero x (k ∷ ks) (y ∷ ys) h w n e = (
  ⊗-pos y (pow 2 k ⊕ x) n.0 n.1 (⊕-pos (pow 2 k) x w.0) (⊕-lt (pow 2 k) x (pow-lt 2 k) h),
  ⊗-lt y (pow 2 k ⊕ x),
  scaled-no-zero x ks ys h w.1 n.2 (suc_inj e),
)

-- n sums of errors at the places ks
record LeftOver (n : ℕ) (ks left : List ℕ) : Type 0 where
  values : List ℕ
  alike : length values ≡ length ks
  no_zero : NoZero values
  sums : Explains n (terms_at ks values) left

killed-leaves : (ps v ks ys s : List ℕ) (n : ℕ) → length v ≡ length ps → length ys ≡ length ks → NoZero ys → Apart (terms_at (ps ++ ks) (v ++ ys)) → length ps + n ≤ 6
    → Explains (length ps + n) (terms_at (ps ++ ks) (v ++ ys)) s → LeftOver n ks (killed_by ps s)
unfolding killed_by
killed-leaves [] [] ks ys s n ev ey z a h E = record { values = ys; alike = ey; no_zero = z; sums = record { at = λ j l. E.at j (omega arith) } }
killed-leaves [] (y ∷ v) ks ys s n ev ey z a h E = absurd (omega arith)
killed-leaves (p ∷ ps) [] ks ys s n ev ey z a h E = absurd (omega arith)
killed-leaves (p ∷ ps) (y ∷ v) ks ys s n ev ey z a h E =
    let x : ℕ = pow 2 p in
    let e : length v ≡ length ps = suc_inj ev in
    let join : scaled_of x (ps ++ ks) (v ++ ys) ≡ scaled_of x ps v ++ scaled_of x ks ys = scaled-append x ps ks v ys e in
    let more : Explains (suc (length ps + n)) (term p y ∷ terms_at (ps ++ ks) (v ++ ys)) s = record { at = λ j l. E.at j (omega arith) } in
    killed-leaves ps (scaled_of x ps v) ks (scaled_of x ks ys) (killed_of x s) n (length-scaled x ps v e) (length-scaled x ks ys ey)
    (scaled-no-zero x ks ys (pow-lt 2 p) (without-behind x ps ks v ys e a.0) z ey)
    (subst (λ (l : List ℕ). Apart (terms_at (ps ++ ks) l)) join (apart-scaled x (ps ++ ks) (v ++ ys) a.1)) (omega arith)
    (subst (λ (l : List ℕ). Explains (length ps + n) (terms_at (ps ++ ks) l) (killed_of x s)) join
    (explains-scaled (length ps + n) p y (ps ++ ks) (v ++ ys) s (omega arith) more))

-- ---- what is left tells how many there are

-- the determinant of the first three sums
abbrev det : List ℕ → ℕ
det l = get_or l 0 0 ⊗ get_or l 2 0 ⊕ get_or l 1 0 ⊗ get_or l 1 0

none-ring : 0 ⊗ 0 ⊕ 0 ⊗ 0 ≡ 0
none-ring = simp ring

one-ring : (z x : ℕ) → z ⊗ (z ⊗ x ⊗ x) ⊕ z ⊗ x ⊗ (z ⊗ x) ≡ 0
one-ring z x = simp ring

module _ (n : ℕ) (left : List ℕ) where
  -- none
  none_first : LeftOver n [] left → 1 ≤ n → get_or left 0 0 ≡ 0
  unfolding power_sum
  none_first L h = L.sums.at 0 (omega arith)

  none-det : LeftOver n [] left → 3 ≤ n → det left ≡ 0
  unfolding power_sum
  none-det L h =
      let at : (j : ℕ) → j < 3 → get_or left j 0 ≡ 0 = λ j l. L.sums.at j (omega arith) in
      (λ i. at 0 (omega arith) i ⊗ at 2 (omega arith) i ⊕ at 1 (omega arith) i ⊗ at 1 (omega arith) i) ∙ none-ring

  -- one
  module _ (k : ℕ) (L : LeftOver n (k ∷ []) left) where
    abbrev z : ℕ
    z = get_or L.values 0 0

    -- its value
    lone : (L.values ≡ z ∷ []) × (0 < z) × (z < 256)
    lone = go L.values L.alike L.no_zero
      where
        go : (l : List ℕ) → length l ≡ 1 → NoZero l → (l ≡ get_or l 0 0 ∷ []) × (0 < get_or l 0 0) × (get_or l 0 0 < 256)
        go [] e q = absurd (omega arith)
        go (y ∷ []) e q = (refl, q.0, q.1)
        go (y ∷ x ∷ l) e q = absurd (omega arith)

    alone : Explains n (term k z ∷ []) left
    alone = subst (λ (l : List ℕ). Explains n (terms_at (k ∷ []) l) left) lone.0 L.sums

    one-first : 1 ≤ n → 0 < get_or left 0 0
    one-first h = omega (arith, explained-one n k z left lone.2 alone 0 (omega arith), lone.1)

    one-det : 3 ≤ n → det left ≡ 0
    one-det h =
        let at = explained-one n k z left lone.2 alone in
        (λ i. at 0 (omega arith) i ⊗ at 2 (omega arith) i ⊕ at 1 (omega arith) i ⊗ at 1 (omega arith) i) ∙ one-ring z (pow 2 k)

    one_place : 2 ≤ n → k < 254 → (o : Option (List Error)) → FindsOne left o → IsSomeAnd o (Are (k ∷ []) (z ∷ []))
    one_place h hk o F = F.finds k z hk lone.1 lone.2 (record { at = λ j l. alone.at j (omega arith) })

  -- two
  module _ (k m : ℕ) (hk : k < 254) (hm : m < k) (h : 4 ≤ n) (L : LeftOver n (k ∷ m ∷ []) left) where
    record Pair : Type 0 where
      y : ℕ
      z : ℕ
      first_pos : 0 < y
      first_byte : y < 256
      second-pos : 0 < z
      second-byte : z < 256
      both : Explains n (term k y ∷ term m z ∷ []) left

    pair : Pair
    pair = go L.values L.alike L.no_zero L.sums
      where
        go : (l : List ℕ) → length l ≡ 2 → NoZero l → Explains n (terms_at (k ∷ m ∷ []) l) left → Pair
        go [] e q E = absurd (omega arith)
        go (y ∷ []) e q E = absurd (omega arith)
        go (y ∷ z ∷ []) e q E =
            record { y = y; z = z; first_pos = q.0; first_byte = q.1; second-pos = q.2.0; second-byte = q.2.1; both = E }
        go (y ∷ z ∷ x ∷ l) e q E = absurd (omega arith)

    two-det : 0 < det left
    two-det =
        let P = pair in D-pos n k P.y m P.z left hk hm P.first_pos P.first_byte P.second-pos P.second-byte h P.both

    two-places : (o : Option (List Error)) → FindsTwo n left o → IsSomeAnd o (Are (k ∷ m ∷ []) (pair.y ∷ pair.z ∷ []))
    two-places o F =
        let P = pair in F.finds k P.y m P.z hk hm P.first_pos P.first_byte P.second-pos P.second-byte P.both

-- ---- the three answers

-- are there two errors, by how many places are marked and by the determinant? is there one, by the first sum?
abbrev is_two : ℕ → List ℕ → Bool
is_two f left = leb f 2 && not (eqb (det left) 0)

abbrev is_one : ℕ → List ℕ → Bool
is_one f left = leb f 4 && not (eqb (get_or left 0 0) 0)

passes : (f b x : ℕ) → f ≤ b → 0 < x → (leb f b && not (eqb x 0)) ≡ true
passes f b x h p = simp (le-leb f b h, ne_eqb x 0 (λ e. omega arith))

refutes : (f b x : ℕ) → (leb f b && not (eqb x 0)) ≡ true → x ≡ 0 → ⊥
refutes f b x t e = never (sym (sym (ap (λ (q : Bool). leb f b && not q) (eq-eqb x 0 e)) ∙ t) ∙ and-false (leb f b))
  where
    and-false : (a : Bool) → (a && false) ≡ false
    and-false true = refl
    and-false false = refl

pub marked-few : (f b : ℕ) (t : Bool) → (leb f b && t) ≡ true → f ≤ b
marked-few f b t e = leb-true f b (both_true (leb f b) t e).0

module _ (s : List ℕ) (m : Marks) (pos : 0 < m.count) (few : m.count ≤ 6) (long : length m.places ≡ 6) (left : List ℕ) (el : left ≡ killed_by (places_in m) s) where
  abbrev n : ℕ
  n = 6 - m.count

  in-hand : length (places_in m) ≡ m.count
  in-hand = length-take-le m.count (exponents m.places) (omega (arith, long, exponents-long m.places))

  leftover : (v ks ys : List ℕ) → Fits (places_in m) s v ks ys → LeftOver n ks left
  leftover v ks ys F =
      subst (LeftOver n ks) (sym el)
      (killed-leaves (places_in m) v ks ys s n F.long F.alike F.errors F.apart (omega (arith, in-hand)) (record { at = λ j h. F.sums.at j (omega (arith, in-hand)) }))

  -- too many for what is left
  too_many : (v ks ys : List ℕ) → Fits (places_in m) s v ks ys → 2 < length ks → ⊥
  too_many v ks ys F h = omega (arith, F.few, in-hand)

  -- two errors have a determinant
  two-told : (v ys : List ℕ) (k j : ℕ) → Fits (places_in m) s v (k ∷ j ∷ []) ys → is_two m.count left ≡ true
  two-told v ys k j F =
      let q : 4 + m.count ≤ 6 = omega (arith, F.few, in-hand) in
      passes m.count 2 (det left) (omega arith) (two-det n left k j F.falling.0 F.falling.1.0 (omega arith) (leftover v (k ∷ j ∷ []) ys F))

  -- one has a first sum
  one_told : (v ys : List ℕ) (k : ℕ) → Fits (places_in m) s v (k ∷ []) ys → is_one m.count left ≡ true
  one_told v ys k F =
      let q : 2 + m.count ≤ 6 = omega (arith, F.few, in-hand) in
      passes m.count 4 (get_or left 0 0) (omega arith) (one-first n left k (leftover v (k ∷ []) ys F) (omega arith))

  -- nothing else fits where two errors are told, but are not found
  pub no-two : is_two m.count left ≡ true → FindsTwo n left None → Locates s m m
  no-two t F = record {
    widened = record { others = []; at = sym (append-nil _); count = omega arith; few = omega arith };
    finds = finds;
  }
    where
      two : m.count ≤ 2
      two = marked-few m.count 2 _ t

      finds : (v ks ys : List ℕ) → Fits (places_in m) s v ks ys → places_in m ≡ places_in m ++ ks
      finds v [] ys G = sym (append-nil _)
      finds v (k ∷ []) ys G = absurd (refutes m.count 2 (det left) t (one-det n left k (leftover v (k ∷ []) ys G) (omega (arith, two))))
      finds v (k ∷ j ∷ []) ys G = absurd (two-places n left k j G.falling.0 G.falling.1.0 (omega (arith, two)) (leftover v (k ∷ j ∷ []) ys G) None F)
      finds v (k ∷ j ∷ i ∷ ks) ys G = absurd (too_many v (k ∷ j ∷ i ∷ ks) ys G (omega arith))

  -- nor where one is
  pub no-one : is_two m.count left ≡ false → is_one m.count left ≡ true → FindsOne left None → Locates s m m
  no-one t o F = record {
    widened = record { others = []; at = sym (append-nil _); count = omega arith; few = omega arith };
    finds = finds;
  }
    where
      one : m.count ≤ 4
      one = marked-few m.count 4 _ o

      finds : (v ks ys : List ℕ) → Fits (places_in m) s v ks ys → places_in m ≡ places_in m ++ ks
      finds v [] ys G = sym (append-nil _)
      finds v (k ∷ []) ys G = absurd (one_place n left k (leftover v (k ∷ []) ys G) (omega (arith, one)) G.falling.0 None F)
      finds v (k ∷ j ∷ []) ys G = never (sym (two-told v ys k j G) ∙ t)
      finds v (k ∷ j ∷ i ∷ ks) ys G = absurd (too_many v (k ∷ j ∷ i ∷ ks) ys G (omega arith))

  module _ (es : List Error) (d f : Error) (r : Marks) where
    abbrev at : ℕ → ℕ
    at i = get_or (error_places es) i 0

    -- two places more
    pub at-two : length es ≡ 2 → is_two m.count left ≡ true → FindsTwo n left (Some es) → (u : Marks) → OneMore m (get_or es 0 d).place.exponent u → OneMore u (get_or es 1 f).place.exponent r → Locates s m r
    at-two l t F u A' B' = record {
      widened = record { others = at 0 ∷ at 1 ∷ []; at = places; count = omega (arith, A.count, B.count); few = omega (arith, two) };
      finds = finds;
    }
      where
        two : m.count ≤ 2
        two = marked-few m.count 2 _ t

        A : OneMore m (at 0) u
        A = subst (λ (k : ℕ). OneMore m k u) (place-at es 0 d (omega arith)) A'

        B : OneMore u (at 1) r
        B = subst (λ (k : ℕ). OneMore u k r) (place-at es 1 f (omega arith)) B'

        places : places_in r ≡ places_in m ++ (at 0 ∷ at 1 ∷ [])
        places = B.at ∙ ap (λ (l : List ℕ). l ++ (at 1 ∷ [])) A.at ∙ append_assoc (places_in m) (at 0 ∷ []) (at 1 ∷ [])

        finds : (v ks ys : List ℕ) → Fits (places_in m) s v ks ys → places_in r ≡ places_in m ++ ks
        finds v [] ys G = absurd (refutes m.count 2 (det left) t (none-det n left (leftover v [] ys G) (omega (arith, two))))
        finds v (k ∷ []) ys G = absurd (refutes m.count 2 (det left) t (one-det n left k (leftover v (k ∷ []) ys G) (omega (arith, two))))
        finds v (k ∷ j ∷ []) ys G =
            let E = two-places n left k j G.falling.0 G.falling.1.0 (omega (arith, two)) (leftover v (k ∷ j ∷ []) ys G) (Some es) F in
            let a : at 0 ≡ k = ap (λ (ks : List ℕ). get_or ks 0 0) E.places in
            let b : at 1 ≡ j = ap (λ (ks : List ℕ). get_or ks 1 0) E.places in
            places ∙ (λ i. places_in m ++ (a i ∷ b i ∷ []))
        finds v (k ∷ j ∷ i ∷ ks) ys G = absurd (too_many v (k ∷ j ∷ i ∷ ks) ys G (omega arith))

    -- one place more
    pub at_one : length es ≡ 1 → is_two m.count left ≡ false → is_one m.count left ≡ true → FindsOne left (Some es) → OneMore m (get_or es 0 d).place.exponent r → Locates s m r
    at_one l t o F A' = record {
      widened = record { others = at 0 ∷ []; at = A.at; count = omega (arith, A.count); few = omega (arith, one) };
      finds = finds;
    }
      where
        one : m.count ≤ 4
        one = marked-few m.count 4 _ o

        A : OneMore m (at 0) r
        A = subst (λ (k : ℕ). OneMore m k r) (place-at es 0 d (omega arith)) A'

        finds : (v ks ys : List ℕ) → Fits (places_in m) s v ks ys → places_in r ≡ places_in m ++ ks
        finds v [] ys G = absurd (refutes m.count 4 (get_or left 0 0) o (none_first n left (leftover v [] ys G) (omega (arith, one))))
        finds v (k ∷ []) ys G =
            let E = one_place n left k (leftover v (k ∷ []) ys G) (omega (arith, one)) G.falling.0 (Some es) F in
            A.at ∙ ap (λ (x : ℕ). places_in m ++ (x ∷ [])) (ap (λ (ks : List ℕ). get_or ks 0 0) E.places)
        finds v (k ∷ j ∷ []) ys G = never (sym (two-told v ys k j G) ∙ t)
        finds v (k ∷ j ∷ i ∷ ks) ys G = absurd (too_many v (k ∷ j ∷ i ∷ ks) ys G (omega arith))

  -- no place more
  pub at_none : is_two m.count left ≡ false → is_one m.count left ≡ false → Locates s m m
  at_none t o = record {
    widened = record { others = []; at = sym (append-nil _); count = omega arith; few = omega arith };
    finds = finds;
  }
    where
      finds : (v ks ys : List ℕ) → Fits (places_in m) s v ks ys → places_in m ≡ places_in m ++ ks
      finds v [] ys G = sym (append-nil _)
      finds v (k ∷ []) ys G = never (sym (one_told v ys k G) ∙ o)
      finds v (k ∷ j ∷ []) ys G = never (sym (two-told v ys k j G) ∙ t)
      finds v (k ∷ j ∷ i ∷ ks) ys G = absurd (too_many v (k ∷ j ∷ i ∷ ks) ys G (omega arith))
