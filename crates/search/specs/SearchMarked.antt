-- What the private functions of the search with marks promise. A reader of the public contracts may pass over this file.
-- Assumes nothing.
use Rattle.std.specs.Prelude.{◌≡◌, Bool, true, false, not, cond, List, [], ◌∷◌, ◌++◌, map, ℕ, suc, ◌+◌, ◌*◌, ◌<◌, ◌≤◌, eqb, length, get_or, take, Option, Some, None}
use Rattle.std.proofs.Math.Option.{none, some}
use Rattle.anc.specs.Word.{is_sound}
use Rattle.gf256.specs.PowerSum.{Apart, ByteTerms}
use Rattle.rs.specs.Marked.{marks_in, decode_marked}
use Rattle.search.specs.Search.{Explains, error_places, error_values, terms_at, terms_of}
use Rattle.search.specs.Values.{exponents}
use Rattle.search.specs.declared.errors.Marks.{Marks}
use Rattle.search.specs.declared.errors.Error.{Error}

-- ---- the marked places

-- 1 for a word that is not sound
unfoldable pub flag_of : ℕ → ℕ
flag_of w = cond (is_sound w) 0 1

-- marks by flags
unfoldable pub marks_by : List ℕ → List Bool
marks_by flags = map (λ f. not (eqb f 0)) flags

-- the exponents of the marked places
unfoldable pub places_of : List Bool → List ℕ
places_of [] = []
places_of (true ∷ marks) = length marks ∷ places_of marks
places_of (false ∷ marks) = places_of marks

-- the places that are in hand
abbrev pub places_in : Marks → List ℕ
places_in m = take m.count (exponents m.places)

-- so many marks, and the places of at most six
pub record MarksOf (marks : List Bool) (m : Marks) : Type 0 where
  pub count : m.count ≡ marks_in marks
  pub at : m.count ≤ 6 → places_in m ≡ places_of marks

-- one to six marks with their places; nothing where there are none, and where there are more
abbrev pub FewMarks : List Bool → Option Marks → Type 0
FewMarks marks (Some m) = MarksOf marks m
FewMarks marks None = 0 < marks_in marks → 6 < marks_in marks

-- the same places and k
pub record OneMore (m : Marks) (k : ℕ) (r : Marks) : Type 0 where
  pub count : r.count ≡ suc m.count
  pub at : places_in r ≡ places_in m ++ (k ∷ [])

-- ---- errors at places

-- exponents that fall, from below n
abbrev pub Descending : ℕ → List ℕ → Type 0
Descending n [] = Unit {0}
Descending n (k ∷ ks) = (k < n) × Descending k ks

-- each is a byte but 0
abbrev pub NoZero : List ℕ → Type 0
NoZero [] = Unit {0}
NoZero (y ∷ ys) = (0 < y) × (y < 256) × NoZero ys

-- values v at the places ps, and the errors ys at others, ks, have the six sums, and the errors are few enough
pub record Fits (ps : List ℕ) (s v ks ys : List ℕ) : Type 0 where
  pub long : length v ≡ length ps
  pub alike : length ys ≡ length ks
  pub falling : Descending 254 ks
  pub errors : NoZero ys
  pub few : 2 * length ks + length ps ≤ 6
  pub apart : Apart (terms_at (ps ++ ks) (v ++ ys))
  pub bytes : ByteTerms (terms_at (ps ++ ks) (v ++ ys))
  pub sums : Explains 6 (terms_at (ps ++ ks) (v ++ ys)) s

-- the places of m, and few enough others
pub record Widened (m r : Marks) : Type 0 where
  pub others : List ℕ
  pub at : places_in r ≡ places_in m ++ others
  pub count : r.count ≡ m.count + length others
  pub few : 2 * length others + m.count ≤ 6

-- the places of m, and those of the few errors elsewhere that the sums allow
pub record Locates (s : List ℕ) (m r : Marks) : Type 0 where
  pub widened : Widened m r
  pub finds : (v ks ys : List ℕ) → Fits (places_in m) s v ks ys → places_in r ≡ places_in m ++ ks

-- errors at the places of m and at few enough others: where any there have the six sums, these do
pub record SolvedMarked (s : List ℕ) (m : Marks) (es : List Error) : Type 0 where
  pub all : Marks
  pub widened : Widened m all
  pub places : error_places es ≡ exponents all.places
  pub long : length (error_values es) ≡ 6
  pub behind : (i : ℕ) → all.count ≤ i → get_or (error_values es) i 0 ≡ 0
  pub finds : (v ks ys : List ℕ) → Fits (places_in m) s v ks ys → Explains 6 (terms_of es) s

-- ---- the block

-- the first rule, for any 254 marks whose places these are: what it says of a block, and what it leaves of it
pub record FirstRule (m : Marks) (before : List ℕ) (r : Bool) (after : List ℕ) : Type 0 where
  pub found : r ≡ true → (marks : List Bool) → length marks ≡ 254 → MarksOf marks m → decode_marked marks before ≡ some after
  pub lost : r ≡ false → (marks : List Bool) → length marks ≡ 254 → MarksOf marks m → decode_marked marks before ≡ none
  pub kept : r ≡ false → after ≡ before
