-- The sums of errors, worked out error by error; the test whether errors have the six sums; and what is known where one error, two and three were
-- looked for and do not have them.
-- Assumes nothing.
use mathlib.Core.Path.{◌≡◌, refl, sym, ap, ap₂, ◌∙◌, subst, subst₂, subst₃}
use mathlib.Core.Bool.{Bool, true, false}
use mathlib.Core.List.{List, [], ◌∷◌}
use mathlib.Core.Logic.{⊎_elim}
use Prim.Native.Nat.{ℕ, suc, ◌+◌, ◌<◌, ◌≤◌}
use native.Mathlib.Nat.{eq-or-lt_of_le}
use native.Mathlib.Omega.{arith}
use native.Mathlib.Numerals.{add-one}
use lib.ListN.{length, get_or, set, drop, length-set, drop_of_length-le}
use lib.Seq.{ext_get_or, drop-cons, get_or-set_same, get_or-set_other}
use Rattle.std.specs.Prelude.{Option, IfSome}
use Rattle.std.specs.Cmp.Lexicographic.{same_text, other_text}
use lib.Dec.{eqb}
use lib.Pointwise.{pointwise}
use Rattle.basics.proofs.Laws.Test.{never}
use Rattle.gf256.specs.Field.{◌⊕◌, ◌⊗◌, pow}
use Rattle.gf256.specs.PowerSum.{Term, power_sum}
use Rattle.gf256.proofs.Laws.Sum.{⊕-assoc, ⊕-zero-l, ⊕-zero-r}
use Rattle.gf256.proofs.Laws.Product.{⊗-one-r}
use Rattle.gf256.proofs.Laws.Ring.{ring}
use Rattle.search.specs.Search.{term, Explains, terms_of, Adds, Held, FindsOne, FindsTwo, FindsThree, Falling}
use Rattle.search.specs.declared.errors.Error.{Error}
use Rattle.search.proofs.Laws.Errors.{refuted}

-- ---- the parts of a value, a sum at a time

up : (y x p : ℕ) → y ⊗ p ⊗ x ≡ y ⊗ (x ⊗ p)
up y x p = simp ring

-- `part` is that of the m-th sum, and to the sums before it theirs have come in
pub record Adding (x y : ℕ) (s t : List ℕ) (part m : ℕ) : Type 0 where
  pub long : length t ≡ 6
  pub next : part ≡ y ⊗ pow x m
  pub done : (j : ℕ) → j < m → get_or t j 0 ≡ get_or s j 0 ⊕ y ⊗ pow x j
  pub rest : (j : ℕ) → m ≤ j → get_or t j 0 ≡ get_or s j 0

pub adding-none : (x y : ℕ) (s : List ℕ) → length s ≡ 6 → y < 256 → Adding x y s s y 0
unfolding pow
adding-none x y s n h = record { long = n; next = sym (⊗-one-r y h); done = λ j b. absurd (omega arith); rest = λ j b. refl }

pub adding-more : (x y : ℕ) (s t : List ℕ) (part m r p : ℕ) → m < 6 → Adding x y s t part m → r ≡ get_or t m 0 ⊕ part → p ≡ part ⊗ x
    → Adding x y s (set t m r) p (m + 1)
unfolding pow
adding-more x y s t part m r p h A er ep = record {
  long = length-set t m r ∙ A.long;
  next = ep ∙ ap (λ (q : ℕ). q ⊗ x) A.next ∙ up y x (pow x m) ∙ ap (λ (n : ℕ). y ⊗ pow x n) (sym (add-one m));
  done = λ j b.
      ⊎_elim (λ (q : j ≡ m). rw q (get_or-set_same t m r 0 (omega (arith, A.long)) ∙ er ∙ ap₂ ◌⊕◌ (A.rest m (omega arith)) A.next))
      (λ (q : j < m). get_or-set_other t m j r 0 (λ z. omega arith) ∙ A.done j q) (eq-or-lt_of_le (omega arith));
  rest = λ j b. get_or-set_other t m j r 0 (λ z. omega arith) ∙ A.rest j (omega arith);
}

pub adding-all : (x y : ℕ) (s t : List ℕ) (part m : ℕ) → 6 ≤ m → Adding x y s t part m → Adds x y s t
adding-all x y s t part m h A = record { at = λ j b. A.done j (omega arith) }

-- ---- the sums of errors, an error at a time: with those of the errors to come they are the sums of all

abbrev pub Summing : List Error → List ℕ → ℕ → Type 0
Summing es s i = (j : ℕ) → j < 6 → get_or s j 0 ⊕ power_sum (terms_of (drop i es)) j ≡ power_sum (terms_of es) j

module _ (es : List Error) where
  pub summing-none : (s : List ℕ) → ((j : ℕ) → get_or s j 0 ≡ 0) → Summing es s 0
  summing-none s z j h = ap (λ (v : ℕ). v ⊕ power_sum (terms_of es) j) (z j) ∙ ⊕-zero-l _

  pub summing-more : (s t : List ℕ) (i x : ℕ) (e : Error) → i < length es → Summing es s i → e ≡ get_or es i e → x ≡ pow 2 e.place.exponent → Adds x e.value s t
      → Summing es t (i + 1)
  unfolding power_sum
  summing-more s t i x e h S q ex A j b =
      ap₂ (λ (v : ℕ) (n : ℕ). v ⊕ power_sum (terms_of (drop n es)) j) (A.at j b ∙ ap (λ (z : ℕ). get_or s j 0 ⊕ e.value ⊗ pow z j) ex) (add-one i) ∙ ⊕-assoc _ _ _
      ∙ ap (λ (l : List Error). get_or s j 0 ⊕ power_sum (terms_of l) j) (sym (drop-cons es i e h ∙ ap (λ (d : Error). d ∷ drop (suc i) es) (sym q))) ∙ S j b

  pub summing-all : (s : List ℕ) (i : ℕ) → length es ≤ i → Summing es s i → Explains 6 (terms_of es) s
  unfolding power_sum
  summing-all s i h S = record {
    at = λ j b. sym (⊕-zero-r _) ∙ ap (λ (l : List Error). get_or s j 0 ⊕ power_sum (terms_of l) j) (sym (drop_of_length-le es {i = i} h)) ∙ S j b;
  }

  -- they are six sums exactly where the errors have these
  pub held : (t s : List ℕ) → length t ≡ 6 → length s ≡ 6 → Explains 6 (terms_of es) t → (r : Bool) → r ≡ pointwise eqb t s → Held s es r
  held t s m n T true e = let q : t ≡ s = same_text t s e in record { sound = λ z. subst (Explains 6 (terms_of es)) q T; complete = λ E. refl }
  held t s m n T false e = record {
    sound = λ z. never (sym z);
    complete = λ E. absurd (other_text t s e (ext_get_or 0 t s (m ∙ sym n) (λ j h. T.at j (omega arith) ∙ sym (E.at j (omega arith)))));
  }

-- ---- one error, two and three that do not have the six sums

fewer : (m n : ℕ) (es : List Term) (s : List ℕ) → m ≤ n → Explains n es s → Explains m es s
fewer m n es s h E = record { at = λ j l. E.at j (omega arith) }

-- a term at the place of exponent k
at_place : (e : Term) (k : ℕ) → e.X ≡ pow 2 k → e ≡ term k e.Y
at_place e k p = λ i. record { X = p i; Y = e.Y }

abbrev Wrong : List ℕ → Option (List Error) → Type 0
Wrong s o = IfSome o (λ es. Explains 6 (terms_of es) s → ⊥)

module _ (s : List ℕ) (one two three : Option (List Error)) (F1 : FindsOne s one) (F2 : FindsTwo 6 s two) (F3 : FindsThree s three)
    (W1 : Wrong s one) (W2 : Wrong s two) (W3 : Wrong s three) where
  no_one : (k y : ℕ) → k < 254 → 0 < y → y < 256 → Explains 6 (term k y ∷ []) s → ⊥
  no_one k y hk py hy E = refuted s (k ∷ []) (y ∷ []) one W1 (F1.finds k y hk py hy (fewer 2 6 _ s (omega arith) E)) E

  no-two : (k y m z : ℕ) → k < 254 → m < k → 0 < y → y < 256 → 0 < z → z < 256 → Explains 6 (term k y ∷ term m z ∷ []) s → ⊥
  no-two k y m z hk hm py hy pz hz E = refuted s (k ∷ m ∷ []) (y ∷ z ∷ []) two W2 (F2.finds k y m z hk hm py hy pz hz E) E

  no-three : (k y m z i w : ℕ) → k < 254 → m < k → i < m → 0 < y → y < 256 → 0 < z → z < 256 → 0 < w → w < 256
      → Explains 6 (term k y ∷ term m z ∷ term i w ∷ []) s → ⊥
  no-three k y m z i w hk hm hi py hy pz hz pw hw E =
      refuted s (k ∷ m ∷ i ∷ []) (y ∷ z ∷ w ∷ []) three W3 (F3.finds k y m z i w hk hm hi py hy pz hz pw hw E) E

  -- no errors at one to three places have them
  pub none-solved : (e : Term) (es : List Term) → length es ≤ 2 → Falling 254 (e ∷ es) → Explains 6 (e ∷ es) s → ⊥
  none-solved e [] l F E = no_one F.0 e.Y F.1 F.3 F.4 (subst (λ (a : Term). Explains 6 (a ∷ []) s) (at_place e F.0 F.2) E)
  none-solved e (d ∷ []) l F E =
      let D = F.5 in
      no-two F.0 e.Y D.0 d.Y F.1 D.1 F.3 F.4 D.3 D.4
      (subst₂ (λ (a b : Term). Explains 6 (a ∷ b ∷ []) s) (at_place e F.0 F.2) (at_place d D.0 D.2) E)
  none-solved e (d ∷ c ∷ []) l F E =
      let D = F.5 in
      let C = D.5 in
      no-three F.0 e.Y D.0 d.Y C.0 c.Y F.1 D.1 C.1 F.3 F.4 D.3 D.4 C.3 C.4
      (subst₃ (λ (a b c : Term). Explains 6 (a ∷ b ∷ c ∷ []) s) (at_place e F.0 F.2) (at_place d D.0 D.2) (at_place c C.0 C.2) E)
  none-solved e (d ∷ c ∷ b ∷ es) l F E = absurd (omega arith)
