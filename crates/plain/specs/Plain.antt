-- What the private functions of the plain repairer promise. A reader of the public contract may pass over this file.
-- Assumes nothing.
use Rattle.std.specs.Prelude.{◌≡◌, Bool, true, List, [], ◌∷◌, ◌++◌, map, ℕ, zero, suc, ◌+◌, ◌-◌, ◌<◌, ◌≤◌, length, get_or, set, take, drop, Option, MatchOption}
use Rattle.basics.specs.Below.{Below, Bytes}
use Rattle.gf256.specs.Field.{◌⊕◌, pow}
use Rattle.gf256.specs.PowerSum.{Term, power_sum}
use Rattle.rs.specs.Polynomial.{value_at, zeros}
use Rattle.plain.specs.declared.errors.Error.{Error}

-- the six sums of a block: its values at the powers 0 to 5 of 2
abbrev pub Sums : List ℕ → List ℕ → Type 0
Sums block s = (m : ℕ) → m < 6 → get_or s m 0 ≡ value_at (pow 2 m) block

-- the element of a place: the power of 2 that goes with its byte
abbrev pub element : ℕ → ℕ
element i = pow 2 (253 - i)

-- values at elements
abbrev pub terms_at : List ℕ → List ℕ → List Term
terms_at [] ys = []
terms_at (x ∷ xs) [] = []
terms_at (x ∷ xs) (y ∷ ys) = record { X = x; Y = y } ∷ terms_at xs ys

-- the first n of the numbers s are the sums of the terms
abbrev pub Explains : ℕ → List Term → List ℕ → Type 0
Explains n es s = (m : ℕ) → m < n → get_or s m 0 ≡ power_sum es m

-- no bytes at the elements but ys have as many of the sums as there are elements
abbrev pub Solves : List ℕ → List ℕ → List ℕ → Type 0
Solves xs s ys = (zs : List ℕ) → length zs ≡ length xs → Bytes zs → Explains (length xs) (terms_at xs zs) s → ys ≡ zs

-- no bytes at the places have the six sums
abbrev pub Unexplained : List ℕ → List ℕ → Type 0
Unexplained is s = (ys : List ℕ) → length ys ≡ length is → Bytes ys → Explains 6 (terms_at (map element is) ys) s → ⊥

-- nor at these places and n more, from the place `low` on in rising order
abbrev pub NoneFrom : ℕ → ℕ → List ℕ → List ℕ → Type 0
NoneFrom zero low is s = Unexplained is s
NoneFrom (suc n) low is s = (i : ℕ) → low ≤ i → i < 254 → NoneFrom n (i + 1) (is ++ (i ∷ [])) s

-- beside these places, the places js are the first from `low` on to have the sums: they rise, no errors have the sums where the next place is lower
-- than that of js, and where it is the same the rest of js are the first
abbrev pub FirstFrom : List ℕ → ℕ → List ℕ → List ℕ → Type 0
FirstFrom [] low is s = Unit {0}
FirstFrom (j ∷ js) low is s = (low ≤ j) × ((i : ℕ) → low ≤ i → i < j → NoneFrom (length js) (i + 1) (is ++ (i ∷ [])) s) × FirstFrom js (j + 1) (is ++ (j ∷ [])) s

-- the places of errors, and the values there
abbrev pub places_of : List Error → List ℕ
places_of es = map (λ e. e.place) es

abbrev pub values_of : List Error → List ℕ
values_of es = map (λ e. e.value) es

-- the errors have the six sums
abbrev pub Has : List ℕ → List Error → Type 0
Has s es = Explains 6 (terms_at (map element (places_of es)) (values_of es)) s

-- whether they have
pub record Judges (s : List ℕ) (es : List Error) (r : Bool) : Type 0 where
  pub sound : r ≡ true → Has s es
  pub complete : Has s es → r ≡ true

-- the errors stand at places of the block and have the six sums
pub record Right (s : List ℕ) (es : List Error) : Type 0 where
  pub below : Below 254 (places_of es)
  pub sums : Has s es

-- of three errors the last stand at the places is, and the values before them are 0
pub record Stands (is : List ℕ) (es : List Error) : Type 0 where
  pub places : drop (3 - length is) (places_of es) ≡ is
  pub idle : take (3 - length is) (values_of es) ≡ zeros (3 - length is)

-- they stand at n places, the first n to have the sums
pub record FirstOf (n : ℕ) (s : List ℕ) (es : List Error) : Type 0 where
  pub places : List ℕ
  pub size : length places ≡ n
  pub stands : Stands places es
  pub first : FirstFrom places 0 [] s

-- and none have them at fewer places
pub record First (s : List ℕ) (es : List Error) : Type 0 where
  pub n : ℕ
  pub within : n ≤ 3
  pub first : FirstOf n s es
  pub fewer : (m : ℕ) → m < n → NoneFrom m 0 [] s

-- errors that were found are right, and the one claim holds of them; where none were, the other holds
abbrev pub Settles : (List Error → Type 0) → Type 0 → List ℕ → Option (List Error) → Type 0
Settles Here nowhere s found = MatchOption found nowhere (λ es. Right s es × Here es)

-- y comes in at place i
abbrev pub patched : List ℕ → ℕ → ℕ → List ℕ
patched l i y = set l i (get_or l i 0 ⊕ y)

-- each value comes in at its place
abbrev pub mended : List ℕ → List Error → List ℕ
mended l [] = l
mended l (e ∷ es) = mended (patched l e.place e.value) es
