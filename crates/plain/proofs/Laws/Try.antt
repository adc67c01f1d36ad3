-- A try of given places, and tries in rising order.
-- Assumes nothing.
use mathlib.Core.Path.{◌≡◌, refl, sym, ap, ◌∙◌, subst}
use mathlib.Core.Bool.{Bool, true, false}
use mathlib.Core.List.{List, [], ◌∷◌, ◌++◌, map}
use Prim.Native.Nat.{ℕ, suc, ◌+◌, ◌<◌, ◌≤◌}
use native.Mathlib.Nat.{zero-add}
use native.Mathlib.Omega.{arith}
use lib.ListN.{length, get_or, length-map}
use Rattle.std.specs.Prelude.{Option, Some, None}
use Rattle.std.specs.Bool.{then_some}
use Rattle.std.specs.Option.{is_some}
use Rattle.std.proofs.lemmas.Option.{none-some}
use Rattle.basics.specs.Below.{Below}
use Rattle.basics.proofs.Laws.Test.{never, below_more}
use Rattle.basics.proofs.Laws.Parts.{entries, entries_at}
use Rattle.gf256.specs.Field.{◌⊕◌, pow}
use Rattle.gf256.specs.PowerSum.{Term, power_sum}
use Rattle.gf256.proofs.Laws.Sum.{⊕-zero-l}
use Rattle.gf256.proofs.Laws.Product.{⊗-zero-l}
use Rattle.plain.specs.Plain.{element, terms_at, Explains, Solves, Unexplained, NoneFrom, FirstFrom, Has, Judges, places_of, Stands, FirstOf, First, Settles}
use Rattle.plain.proofs.Laws.Solve.{one-solved}
use Rattle.plain.specs.declared.errors.Error.{Error}

-- ---- one try

-- a value of 0 adds nothing
zero-term : (x : ℕ) (es : List Term) (s : List ℕ) → Explains 6 es s → Explains 6 (record { X = x; Y = 0 } ∷ es) s
unfolding power_sum
zero-term x es s E m h = E m h ∙ sym (ap (λ (v : ℕ). v ⊕ power_sum es m) (⊗-zero-l (pow x m)) ∙ ⊕-zero-l _)

-- no values but the solved ones can have all six sums
only-solved : (is s ys : List ℕ) → length is ≤ 6 → Solves (map element is) (entries (length is) 0 s) ys
    → (Explains 6 (terms_at (map element is) ys) s → ⊥) → Unexplained is s
only-solved is s ys h S none zs l b E =
    let n = length-map is element in
    none (subst (λ (vs : List ℕ). Explains 6 (terms_at (map element is) vs) s)
    (sym (S zs (l ∙ sym n) b (λ m k. entries_at (length is) 0 m s (omega (arith, n)) ∙ ap (λ (i : ℕ). get_or s i 0) (zero-add m) ∙ E m (omega (arith, n))))) E)

-- ---- what a try settles

-- claims that follow
pub settles-so : (A C : List Error → Type 0) (B D : Type 0) (s : List ℕ) (o : Option (List Error)) → ((es : List Error) → A es → C es) → (B → D)
    → Settles A B s o → Settles C D s o
settles-so A C B D s None f g S = g S
settles-so A C B D s (Some es) f g S = (S.0, f es S.1)

-- errors stand at places of the block
placed : (es : List Error) → Below 254 (places_of es)
placed [] = tt
placed (e ∷ es) = (e.within, placed es)

-- the test of the six sums settles whether the errors have them
pub judged-settles : (s : List ℕ) (es : List Error) (r : Bool) → Judges s es r
    → Settles (λ l. l ≡ es) (Has s es → ⊥) s (then_some r es)
judged-settles s es true J = (record { below = placed es; sums = J.sound refl }, refl)
judged-settles s es false J = λ E. never (sym (J.complete E))

-- no place, one place, two and three; where fewer than three are tried, errors of 0 stand before them
module _ (s : List ℕ) (o : Option (List Error)) where
  -- a try that is wrong leaves the places unexplained
  pub tried : (is : List ℕ) (es : List Error) → Stands is es → ((Has s es → ⊥) → Unexplained is s) → Settles (λ l. l ≡ es) (Has s es → ⊥) s o
      → Settles (Stands is) (Unexplained is s) s o
  tried is es S f = settles-so _ _ _ _ s o (λ l p. subst (Stands is) (sym p) S) f

  abbrev at : (i : ℕ) → i < 254 → ℕ → Error
  at i h y = record { place = i; value = y; within = h }

  pub tried-none : (i : ℕ) (h : i < 254) → (let es : List Error = at i h 0 ∷ at i h 0 ∷ at i h 0 ∷ [] in Settles (λ l. l ≡ es) (Has s es → ⊥) s o) → Settles (Stands []) (Unexplained [] s) s o
  tried-none i h =
      tried [] (at i h 0 ∷ at i h 0 ∷ at i h 0 ∷ []) (record { places = refl; idle = refl }) (λ none ys l b E. none (zero-term (element i) _ s (zero-term (element i) _ s (zero-term (element i) [] s E))))

  pub tried-one : (i : ℕ) (h k : i < 254) → (let es : List Error = at i h 0 ∷ at i h 0 ∷ at i k (get_or s 0 0) ∷ [] in Settles (λ l. l ≡ es) (Has s es → ⊥) s o)
      → Settles (Stands (i ∷ [])) (Unexplained (i ∷ []) s) s o
  tried-one i h k =
      tried (i ∷ []) (at i h 0 ∷ at i h 0 ∷ at i k (get_or s 0 0) ∷ []) (record { places = refl; idle = refl })
      (λ none. only-solved (i ∷ []) s (get_or s 0 0 ∷ []) (omega arith) (one-solved (element i) (get_or s 0 0))
      (λ E. none (zero-term (element i) _ s (zero-term (element i) (terms_at (element i ∷ []) (get_or s 0 0 ∷ [])) s E))))

  pub tried-two : (i j b c : ℕ) (h k : i < 254) (l : j < 254) → Solves (element i ∷ element j ∷ []) (entries 2 0 s) (b ∷ c ∷ [])
      → (let es : List Error = at i h 0 ∷ at i k b ∷ at j l c ∷ [] in Settles (λ l. l ≡ es) (Has s es → ⊥) s o)
      → Settles (Stands (i ∷ j ∷ [])) (Unexplained (i ∷ j ∷ []) s) s o
  tried-two i j b c h k l S =
      tried (i ∷ j ∷ []) (at i h 0 ∷ at i k b ∷ at j l c ∷ []) (record { places = refl; idle = refl })
      (λ none. only-solved (i ∷ j ∷ []) s (b ∷ c ∷ []) (omega arith) S (λ E. none (zero-term (element i) (terms_at (element i ∷ element j ∷ []) (b ∷ c ∷ [])) s E)))

  pub tried-three : (i j k a b c : ℕ) (f : i < 254) (g : j < 254) (h : k < 254) → Solves (element i ∷ element j ∷ element k ∷ []) (entries 3 0 s) (a ∷ b ∷ c ∷ [])
      → (let es : List Error = at i f a ∷ at j g b ∷ at k h c ∷ [] in Settles (λ l. l ≡ es) (Has s es → ⊥) s o)
      → Settles (Stands (i ∷ j ∷ k ∷ [])) (Unexplained (i ∷ j ∷ k ∷ []) s) s o
  tried-three i j k a b c f g h S =
      tried (i ∷ j ∷ k ∷ []) (at i f a ∷ at j g b ∷ at k h c ∷ []) (record { places = refl; idle = refl }) (only-solved (i ∷ j ∷ k ∷ []) s (a ∷ b ∷ c ∷ []) (omega arith) S)

-- ---- tries in rising order

-- the places is, a next place from `low` on and n more after it: where the next one is below i, no errors have the sums; the last try failed
pub record Sought (n low : ℕ) (is s : List ℕ) (tried : Option (List Error)) (i : ℕ) : Type 0 where
  pub from : low ≤ i
  pub within : i ≤ 254
  pub failed : tried ≡ None
  pub none : (l : ℕ) → l < i → low ≤ l → NoneFrom n (l + 1) (is ++ (l ∷ [])) s

module _ (n low : ℕ) (is s : List ℕ) where
  module _ (e : Option (List Error)) (i : ℕ) (S : Sought n low is s e i) where
    pub sought-more : (d : Option (List Error)) → i < 254 → d ≡ None → NoneFrom n (i + 1) (is ++ (i ∷ [])) s → Sought n low is s d (i + 1)
    sought-more d h q none = record {
      from = omega (arith, S.from);
      within = omega arith;
      failed = q;
      none = below_more (λ l. low ≤ l → NoneFrom n (l + 1) (is ++ (l ∷ [])) s) i S.none (λ a. none);
    }

    pub sought-all : 254 ≤ i → NoneFrom (suc n) low is s
    sought-all h l a b = S.none l (omega arith) a

-- the next place is where the tries stand
pub first_more : (low : ℕ) (is s : List ℕ) (e : Option (List Error)) (j : ℕ) (js : List ℕ) → Sought (length js) low is s e j → FirstFrom js (j + 1) (is ++ (j ∷ [])) s
    → FirstFrom (j ∷ js) low is s
first_more low is s e j js S B = (S.from, λ l a b. S.none l b a, B)

-- ---- what the tries settle

-- what the test of a try has told
pub failed_try : {A : Type 0} (o : Option A) (t : Bool) → t ≡ is_some o → t ≡ false → o ≡ None
failed_try None t e q = refl
failed_try (Some x) t e q = never (sym e ∙ q)

pub found_try : {A : Type 0} (o : Option A) (t : Bool) → t ≡ is_some o → t ≡ true → o ≡ None → ⊥
found_try None t e q z = never (sym q ∙ e)
found_try (Some x) t e q z = none-some x (sym z)

pub none_there : (A : List Error → Type 0) (B : Type 0) (s : List ℕ) (o : Option (List Error)) → o ≡ None → Settles A B s o → B
none_there A B s None q S = S
none_there A B s (Some es) q S = absurd (none-some es (sym q))

-- all have failed
pub none_found : (A : List Error → Type 0) (B : Type 0) (s : List ℕ) (o : Option (List Error)) → o ≡ None → B → Settles A B s o
none_found A B s None q none = none
none_found A B s (Some es) q none = absurd (none-some es (sym q))

-- the last has not, and is then the first of its size
pub first_found : (B D : Type 0) (js s : List ℕ) (o : Option (List Error)) → (o ≡ None → ⊥) → FirstFrom js 0 [] s → Settles (Stands js) B s o
    → Settles (FirstOf (length js) s) D s o
first_found B D js s None q b S = absurd (q refl)
first_found B D js s (Some es) q b S = (S.0, record { places = js; size = refl; stands = S.1; first = b })

-- ---- of no place, one, two and three

module _ (s : List ℕ) where
  -- no errors at fewer than n places have the sums
  abbrev Fewer : ℕ → Type 0
  Fewer n = (m : ℕ) → m < n → NoneFrom m 0 [] s

  pub fewer-none : Fewer 0
  fewer-none m h = absurd (omega arith)

  pub fewer-more : (n : ℕ) → Fewer n → NoneFrom n 0 [] s → Fewer (n + 1)
  fewer-more n = below_more (λ m. NoneFrom m 0 [] s) n

  -- the first of its size is the first of all
  pub first-of-all : (e : List Error) (n : ℕ) → n ≤ 3 → Fewer n → FirstOf n s e → First s e
  first-of-all e n h few f = record { n = n; within = h; first = f; fewer = few }
