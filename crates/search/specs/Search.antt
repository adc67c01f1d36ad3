-- What the private functions of the search promise. A reader of the public contracts may pass over this file.
-- Assumes nothing.
use Rattle.std.specs.Prelude.{◌≡◌, Bool, true, false, List, [], ◌∷◌, ℕ, ◌+◌, ◌-◌, ◌<◌, length, get_or, set, Option, IfSome, IsSomeAnd}
use Rattle.gf256.specs.Field.{◌⊕◌, ◌⊗◌, pow, over}
use Rattle.gf256.specs.PowerSum.{Term, power_sum}
use Rattle.rs.specs.Polynomial.{value_at}
use Rattle.rs.specs.Codeword.{left_of, Codeword}
use Rattle.search.specs.declared.errors.Error.{Error}
use Rattle.search.specs.declared.solver.Locator.{Locator}
use Rattle.search.specs.declared.errors.Place.{Place}

-- the value y at the place of exponent k
abbrev pub term : ℕ → ℕ → Term
term k y = record { X = pow 2 k; Y = y }

-- the first n of the numbers s are the sums of the terms
pub record Explains (n : ℕ) (es : List Term) (s : List ℕ) : Type 0 where
  pub at : (j : ℕ) → j < n → get_or s j 0 ≡ power_sum es j

-- the five sums that are left of six once x is killed, and a 0
abbrev pub killed_of : ℕ → List ℕ → List ℕ
killed_of x s =
    get_or s 1 0 ⊕ x ⊗ get_or s 0 0 ∷ get_or s 2 0 ⊕ x ⊗ get_or s 1 0 ∷ get_or s 3 0 ⊕ x ⊗ get_or s 2 0 ∷ get_or s 4 0 ⊕ x ⊗ get_or s 3 0 ∷ get_or s 5 0 ⊕ x ⊗ get_or s 4 0 ∷ 0 ∷ []

-- each of the n sums is a times the one before it and b times the one before that
pub record Steps (n a b : ℕ) (s : List ℕ) : Type 0 where
  pub at : (j : ℕ) → j + 2 < n → get_or s (j + 2) 0 ≡ a ⊗ get_or s (j + 1) 0 ⊕ b ⊗ get_or s j 0

-- x^3 + a x^2 + b x + c
unfoldable pub cubic : ℕ → ℕ → ℕ → ℕ → ℕ
cubic a b c x = x ⊗ (x ⊗ x) ⊕ (a ⊗ (x ⊗ x) ⊕ (b ⊗ x ⊕ c))

-- the determinant of three columns
unfoldable pub determinant : ℕ → ℕ → ℕ → ℕ → ℕ → ℕ → ℕ → ℕ → ℕ → ℕ
determinant a b c d e f g h i = a ⊗ (e ⊗ i ⊕ f ⊗ h) ⊕ (d ⊗ (b ⊗ i ⊕ c ⊗ h) ⊕ g ⊗ (b ⊗ f ⊕ c ⊗ e))

-- the locator of two errors, from the first four sums
unfoldable pub locator_two : List ℕ → Locator
locator_two s =
    let d : ℕ = get_or s 0 0 ⊗ get_or s 2 0 ⊕ get_or s 1 0 ⊗ get_or s 1 0 in
    record {
      a = over (get_or s 0 0 ⊗ get_or s 3 0 ⊕ get_or s 1 0 ⊗ get_or s 2 0) d;
      b = over (get_or s 1 0 ⊗ get_or s 3 0 ⊕ get_or s 2 0 ⊗ get_or s 2 0) d;
      c = 0;
    }

-- the determinant of three of the columns s_i, s_(i+1), s_(i+2)
abbrev pub minor_of : List ℕ → ℕ → ℕ → ℕ → ℕ
minor_of s i j k =
    determinant (get_or s i 0) (get_or s (i + 1) 0) (get_or s (i + 2) 0) (get_or s j 0) (get_or s (j + 1) 0) (get_or s (j + 2) 0) (get_or s k 0) (get_or s (k + 1) 0) (get_or s (k + 2) 0)

-- the locator of three errors, from six sums
unfoldable pub locator_three : List ℕ → Locator
locator_three s =
    let d : ℕ = minor_of s 0 1 2 in
    record { a = over (minor_of s 0 1 3) d; b = over (minor_of s 0 2 3) d; c = over (minor_of s 1 2 3) d }

-- the place of exponent k is a root of the locator
abbrev pub Root : Locator → ℕ → Type 0
Root l k = cubic l.a l.b l.c (pow 2 k) ≡ 0

-- the greatest place that is a root of the locator, where there is one
pub record TopRoot (l : Locator) (o : Option Place) : Type 0 where
  pub top : (k : ℕ) → k < 254 → Root l k → ((j : ℕ) → k < j → j < 254 → Root l j → ⊥) → IsSomeAnd o (λ p. p.exponent ≡ k)

-- the place that is the element x, where there is one
pub record IsPlace (x : ℕ) (o : Option Place) : Type 0 where
  pub at : (k : ℕ) → k < 254 → x ≡ pow 2 k → IsSomeAnd o (λ p. p.exponent ≡ k)

-- the exponents of the places of errors, and the values there
abbrev pub error_places : List Error → List ℕ
error_places [] = []
error_places (e ∷ es) = e.place.exponent ∷ error_places es

abbrev pub error_values : List Error → List ℕ
error_values [] = []
error_values (e ∷ es) = e.value ∷ error_values es

-- values at places, as terms
abbrev pub terms_at : List ℕ → List ℕ → List Term
terms_at [] v = []
terms_at (k ∷ ks) [] = []
terms_at (k ∷ ks) (y ∷ v) = term k y ∷ terms_at ks v

-- errors as terms
abbrev pub terms_of : List Error → List Term
terms_of es = terms_at (error_places es) (error_values es)

-- errors at these places with these values
pub record Are (ks ys : List ℕ) (es : List Error) : Type 0 where
  pub places : error_places es ≡ ks
  pub values : error_values es ≡ ys

-- the lone error that the first two sums allow
pub record FindsOne (s : List ℕ) (o : Option (List Error)) : Type 0 where
  pub finds : (k y : ℕ) → k < 254 → 0 < y → y < 256 → Explains 2 (term k y ∷ []) s → IsSomeAnd o (Are (k ∷ []) (y ∷ []))

-- the two errors that n sums allow, the first place first
pub record FindsTwo (n : ℕ) (s : List ℕ) (o : Option (List Error)) : Type 0 where
  pub finds : (k y m z : ℕ) → k < 254 → m < k → 0 < y → y < 256 → 0 < z → z < 256 → Explains n (term k y ∷ term m z ∷ []) s
      → IsSomeAnd o (Are (k ∷ m ∷ []) (y ∷ z ∷ []))

-- the three errors that six sums allow, the first place first
pub record FindsThree (s : List ℕ) (o : Option (List Error)) : Type 0 where
  pub finds : (k y m z i w : ℕ) → k < 254 → m < k → i < m → 0 < y → y < 256 → 0 < z → z < 256 → 0 < w → w < 256
      → Explains 6 (term k y ∷ term m z ∷ term i w ∷ []) s → IsSomeAnd o (Are (k ∷ m ∷ i ∷ []) (y ∷ z ∷ w ∷ []))

-- to each sum, its part of the value y at x has come in
pub record Adds (x y : ℕ) (s t : List ℕ) : Type 0 where
  pub at : (j : ℕ) → j < 6 → get_or t j 0 ≡ get_or s j 0 ⊕ y ⊗ pow x j

-- whether the errors have the six sums
pub record Held (s : List ℕ) (es : List Error) (r : Bool) : Type 0 where
  pub sound : r ≡ true → Explains 6 (terms_of es) s
  pub complete : Explains 6 (terms_of es) s → r ≡ true

-- errors at falling exponents below n, none of them 0
abbrev pub Falling : ℕ → List Term → Type 0
Falling n [] = Unit {0}
Falling n (e ∷ es) = (k : ℕ) × (k < n) × (e.X ≡ pow 2 k) × (0 < e.Y) × (e.Y < 256) × Falling k es

-- the six sums of a list: its values at the powers 0 to 5 of 2
unfoldable pub sums_of : List ℕ → List ℕ
sums_of l = value_at (pow 2 0) l ∷ value_at (pow 2 1) l ∷ value_at (pow 2 2) l ∷ value_at (pow 2 3) l ∷ value_at (pow 2 4) l ∷ value_at (pow 2 5) l ∷ []

-- y comes in at the place of exponent k
abbrev pub patched : List ℕ → ℕ → ℕ → List ℕ
patched l k y = set l (253 - k) (get_or l (253 - k) 0 ⊕ y)

-- values that come in at places, one after the other
unfoldable pub patched_all : List ℕ → List ℕ → List ℕ → List ℕ
patched_all [] v l = l
patched_all (k ∷ ks) [] l = l
patched_all (k ∷ ks) (y ∷ v) l = patched_all ks v (patched l k y)

-- errors that come in
abbrev pub patched_by : List Error → List ℕ → List ℕ
patched_by es l = patched_all (error_places es) (error_values es) l

-- n errors that were found come in where they have the six sums, and else the block stays as it was
pub record Mends (n : ℕ) (s : List ℕ) (o : Option (List Error)) (before : List ℕ) (r : Bool) (after : List ℕ) : Type 0 where
  pub right : r ≡ true → IsSomeAnd o (λ es. (length es ≡ n) × Explains 6 (terms_of es) s × (after ≡ patched_by es before))
  pub wrong : r ≡ false → IfSome o (λ es. Explains 6 (terms_of es) s → ⊥)
  pub kept : r ≡ false → after ≡ before

-- 254 bytes that are no codeword, and what the division leaves of them
pub record Damaged (block rest : List ℕ) : Type 0 where
  pub long : length block ≡ 254
  pub divided : rest ≡ left_of block
  pub broken : Codeword block → ⊥
