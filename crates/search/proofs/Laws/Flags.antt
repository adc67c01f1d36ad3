-- The marked places, collected flag by flag.
-- Assumes nothing.
use mathlib.Core.Path.{◌≡◌, refl, sym, ap, ap₂, ◌∙◌}
use mathlib.Core.Bool.{Bool, true, false, not, cond}
use mathlib.Core.List.{List, [], ◌∷◌, ◌++◌, map, append_assoc, append-nil}
use Prim.Native.Nat.{ℕ, zero, suc, ◌+◌, ◌-◌, ◌≤◌, ◌<◌}
use native.Mathlib.Nat.{not-suc-le-zero, le_of_suc-le-suc}
use native.Mathlib.Numerals.{add-one}
use native.Mathlib.Omega.{arith}
use borrow.Author.Tests.{eq-eqb, ne_eqb}
use lib.Dec.{eqb}
use lib.ListN.{length, get_or, set, take, drop, length-set, length-drop, drop_of_length-le}
use lib.Seq.{drop-cons, take-suc-set}
use Rattle.anc.specs.Word.{is_sound}
use Rattle.rs.specs.Marked.{marks_in}
use Rattle.search.specs.Values.{exponents}
use Rattle.search.specs.declared.errors.Place.{Place}
use Rattle.search.specs.declared.errors.Marks.{Marks}
use Rattle.search.proofs.Laws.Values.{exponents-long, exponents-set}
use Rattle.search.specs.Marked.{confessed}
use Rattle.search.specs.SearchMarked.{flag_of, marks_by, places_of, MarksOf}

-- ---- flags

pub flags-length : (words : List ℕ) → length (map flag_of words) ≡ length words
flags-length [] = refl
flags-length (w ∷ words) = ap suc (flags-length words)

pub flags-at : (words : List ℕ) (i : ℕ) → i < length words → get_or (map flag_of words) i 0 ≡ flag_of (get_or words i 0)
flags-at [] i h = absurd (not-suc-le-zero h)
flags-at (w ∷ words) zero h = refl
flags-at (w ∷ words) (suc i) h = flags-at words i (le_of_suc-le-suc h)

-- a flag is up exactly where the word is not sound
pub flags-confess : (words : List ℕ) → marks_by (map flag_of words) ≡ confessed words
unfolding marks_by confessed flag_of
flags-confess [] = refl
flags-confess (w ∷ words) = ap₂ (λ (b : Bool) (l : List Bool). b ∷ l) (one (is_sound w)) (flags-confess words)
  where
    one : (t : Bool) → not (eqb (cond t 0 1) 0) ≡ not t
    one true = refl
    one false = refl

pub confessed-length : (words : List ℕ) → length (confessed words) ≡ length words
unfolding confessed
confessed-length [] = refl
confessed-length (w ∷ words) = ap suc (confessed-length words)

marks-length : (flags : List ℕ) → length (marks_by flags) ≡ length flags
unfolding marks_by
marks-length [] = refl
marks-length (f ∷ flags) = ap suc (marks-length flags)

-- ---- the places, collected

-- of the flags up to i so many are up, and with those that follow these are the places
pub record Collecting (flags : List ℕ) (places : List Place) (count i : ℕ) : Type 0 where
  pub within : i ≤ 254
  pub small : count ≤ i
  pub long : length places ≡ 6
  pub counted : count + marks_in (marks_by (drop i flags)) ≡ marks_in (marks_by flags)
  pub so_far : count ≤ 6 → take count (exponents places) ++ places_of (marks_by (drop i flags)) ≡ places_of (marks_by flags)

pub collecting-none : (flags : List ℕ) (places : List Place) → length places ≡ 6 → Collecting flags places 0 0
collecting-none flags places n = record { within = omega arith; small = omega arith; long = n; counted = omega arith; so_far = λ h. refl }

module _ (flags : List ℕ) (whole : length flags ≡ 254) (places : List Place) (count i : ℕ) (C : Collecting flags places count i) (h : i < 254) where
  -- the next flag and those behind it
  next : drop i flags ≡ get_or flags i 0 ∷ drop (suc i) flags
  next = drop-cons flags i 0 (omega arith)

  -- it is not up
  module _ (z : get_or flags i 0 ≡ 0) where
    down : marks_by (drop i flags) ≡ false ∷ marks_by (drop (i + 1) flags)
    unfolding marks_by
    down = ap marks_by next ∙ ap (λ (t : Bool). not t ∷ marks_by (drop (suc i) flags)) (eq-eqb _ 0 z) ∙ ap (λ (n : ℕ). false ∷ marks_by (drop n flags)) (sym (add-one i))

    pub collecting-same : Collecting flags places count (i + 1)
    unfolding marks_in places_of
    collecting-same = record {
      within = omega arith;
      small = omega (arith, C.small);
      long = C.long;
      counted = omega (arith, ap (λ (l : List Bool). count + marks_in l) down, C.counted);
      so_far = λ q. sym (ap (λ (l : List Bool). take count (exponents places) ++ places_of l) down) ∙ C.so_far q;
    }

  -- it is up
  module _ (n : get_or flags i 0 ≡ 0 → ⊥) where
    up : marks_by (drop i flags) ≡ true ∷ marks_by (drop (i + 1) flags)
    unfolding marks_by
    up = ap marks_by next ∙ ap (λ (t : Bool). not t ∷ marks_by (drop (suc i) flags)) (ne_eqb _ 0 n) ∙ ap (λ (m : ℕ). true ∷ marks_by (drop m flags)) (sym (add-one i))

    more : count + 1 + marks_in (marks_by (drop (i + 1) flags)) ≡ marks_in (marks_by flags)
    unfolding marks_in
    more = omega (arith, ap (λ (l : List Bool). count + marks_in l) up, C.counted)

    -- and there is room for its place
    pub collecting-more : count < 6 → (p : Place) → p.exponent ≡ 253 - i → Collecting flags (set places count p) (count + 1) (i + 1)
    unfolding places_of
    collecting-more r p e = record {
      within = omega arith;
      small = omega (arith, C.small);
      long = length-set places count p ∙ C.long;
      counted = more;
      so_far = λ q.
          ap₂ (λ (l m : List ℕ). l ++ m) (ap (take (count + 1)) (exponents-set places count p) ∙ ap (λ (m : ℕ). take m (set (exponents places) count p.exponent)) (add-one count) ∙ take-suc-set (exponents places) count p.exponent (omega (arith, C.long, exponents-long places))) refl
          ∙ append_assoc (take count (exponents places)) (p.exponent ∷ []) _
          ∙ ap (λ (m : ℕ). take count (exponents places) ++ (m ∷ places_of (marks_by (drop (i + 1) flags)))) here
          ∙ sym (ap (λ (l : List Bool). take count (exponents places) ++ places_of l) up) ∙ C.so_far (omega arith);
    }
      where
        here : p.exponent ≡ length (marks_by (drop (i + 1) flags))
        here = omega (arith, marks-length (drop (i + 1) flags), length-drop (i + 1) flags)

    -- and there is none
    pub collecting-many : 6 ≤ count → Collecting flags places (count + 1) (i + 1)
    collecting-many r = record {
      within = omega arith;
      small = omega (arith, C.small);
      long = C.long;
      counted = more;
      so_far = λ q. absurd (omega arith);
    }

module _ (flags : List ℕ) (places : List Place) (count i : ℕ) (long : length flags ≡ 254) (h : 254 ≤ i) (C : Collecting flags places count i) where
  none : drop i flags ≡ []
  none = drop_of_length-le flags {i = i} (omega arith)

  -- at the end all are counted
  pub collected : count ≡ marks_in (marks_by flags)
  unfolding marks_by marks_in
  collected = omega (arith, C.counted, ap (λ (l : List ℕ). marks_in (marks_by l)) none)

  -- and the places of at most six are in hand
  pub collecting-all : (m : Marks) → m.count ≡ count → m.places ≡ places → MarksOf (marks_by flags) m
  unfolding marks_by places_of
  collecting-all m p q = record {
    count = p ∙ collected;
    at = λ r. ap₂ (λ (n : ℕ) (ps : List Place). take n (exponents ps)) p q
        ∙ sym (append-nil _) ∙ sym (ap (λ (l : List ℕ). take count (exponents places) ++ places_of (marks_by l)) none) ∙ C.so_far (omega arith);
  }
