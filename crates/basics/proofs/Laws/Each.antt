-- How the tests of lists go on from an entry to the rest, and what they say.
-- Assumes nothing.
use mathlib.Core.Path.{◌≡◌, refl, sym, ap, ap₂, ◌∙◌}
use mathlib.Core.Bool.{Bool, true, false, ◌&&◌, and-true, and_assoc, false≢true}
use mathlib.Core.List.{List, [], ◌∷◌, ◌++◌}
use Prim.Native.Nat.{ℕ, ◌+◌, ◌≤◌, ◌<◌}
use native.Mathlib.Numerals.{add-one}
use native.Mathlib.Omega.{arith}
use borrow.Author.Tests.{eqb-true, eq-eqb}
use lib.Dec.{eqb}
use lib.ListN.{length, get_or, drop, drop_of_length-le}
use lib.Seq.{drop-cons}
use Rattle.std.specs.Cmp.Lexicographic.{pointwise}
use Rattle.std.specs.List.{list_all}
use Rattle.basics.specs.Each.{all, same}
use Rattle.basics.proofs.Laws.Test.{both_true, same_test}

-- ---- a test of each entry

-- the entry at i, and then the rest
all-step : (f : ℕ → Bool) (l : List ℕ) (i : ℕ) → i < length l → all f (drop i l) ≡ (f (get_or l i 0) && all f (drop (i + 1) l))
unfolding all
all-step f l i h = rw (add-one, drop-cons l i 0 h)

-- no entry is left
all_end : (f : ℕ → Bool) (l : List ℕ) (i : ℕ) → length l ≤ i → all f (drop i l) ≡ true
unfolding all
all_end f l i h = rw (drop_of_length-le l h)

-- one list behind another
pub all_append : (f : ℕ → Bool) (l m : List ℕ) → all f l ≡ true → all f m ≡ true → all f (l ++ m) ≡ true
unfolding all
all_append f [] m p q = q
all_append f (b ∷ l) m p q = let both = both_true (f b) (all f l) p in rw both.0 (all_append f l m both.1 q)

-- ---- a loop that says whether each entry passes

-- i entries have been passed, and `ok` says whether each of them did
pub record Passing (f : ℕ → Bool) (l : List ℕ) (i : ℕ) (ok : Bool) : Type 0 where
  pub within : i ≤ length l
  pub so_far : all f l ≡ (ok && all f (drop i l))

module _ (f : ℕ → Bool) (l : List ℕ) where
  -- none yet
  pub passing-none : Passing f l 0 true
  passing-none = record { within = omega arith; so_far = refl }

  -- one more
  pub passing-more : (i : ℕ) (ok more : Bool) → Passing f l i ok → i < length l → more ≡ (ok && f (get_or l i 0)) → Passing f l (i + 1) more
  passing-more i ok more p h e = record {
    within = omega arith;
    so_far = p.so_far ∙ ap (◌&&◌ ok) (all-step f l i h) ∙ sym (and_assoc ok _ _) ∙ ap (λ (b : Bool). b && all f (drop (i + 1) l)) (sym e);
  }

  -- all of them
  pub passing-all : (i : ℕ) (ok : Bool) → Passing f l i ok → length l ≤ i → ok ≡ all f l
  passing-all i ok p h = sym (p.so_far ∙ ap (◌&&◌ ok) (all_end f l i h) ∙ and-true ok)

-- the library's test of each entry
pub list_all-all : (f : ℕ → Bool) (l : List ℕ) → list_all f l ≡ all f l
unfolding all
list_all-all f [] = refl
list_all-all f (m ∷ l) = ap (◌&&◌ (f m)) (list_all-all f l)

-- ---- equal lists

pub same-equal : (a b : List ℕ) → same a b ≡ true → a ≡ b
unfolding same
same-equal [] [] e = refl
same-equal [] (y ∷ b) e = absurd (false≢true e)
same-equal (x ∷ a) [] e = absurd (false≢true e)
same-equal (x ∷ a) (y ∷ b) e =
    let t = both_true (eqb x y) (same a b) e in ap₂ (λ (z : ℕ) (l : List ℕ). z ∷ l) (eqb-true x y t.0) (same-equal a b t.1)

pub same_self : (a : List ℕ) → same a a ≡ true
unfolding same
same_self [] = refl
same_self (x ∷ a) = ap₂ ◌&&◌ (eq-eqb x x refl) (same_self a)

-- lists that differ are told apart
pub same-other : (a b : List ℕ) → (a ≡ b → ⊥) → same a b ≡ false
same-other a b n = go (same a b) (same-equal a b)
  where
    go : (t : Bool) → (t ≡ true → a ≡ b) → t ≡ false
    go true f = absurd (n (f refl))
    go false f = refl

-- the library's test of two lists, entry by entry, either way round
pub pointwise-same : (a b : List ℕ) → pointwise eqb a b ≡ same a b
unfolding same
pointwise-same [] [] = refl
pointwise-same [] (y ∷ b) = refl
pointwise-same (x ∷ a) [] = refl
pointwise-same (x ∷ a) (y ∷ b) = ap (◌&&◌ (eqb x y)) (pointwise-same a b)

pub pointwise-turned : (a b : List ℕ) → pointwise eqb a b ≡ same b a
unfolding same
pointwise-turned [] [] = refl
pointwise-turned [] (y ∷ b) = refl
pointwise-turned (x ∷ a) [] = refl
pointwise-turned (x ∷ a) (y ∷ b) = ap₂ ◌&&◌ (eqb-turned x y) (pointwise-turned a b)
  where
    eqb-turned : (x y : ℕ) → eqb x y ≡ eqb y x
    eqb-turned x y = same_test (eqb x y) (eqb y x) (λ e. eq-eqb y x (sym (eqb-true x y e))) (λ e. eq-eqb x y (sym (eqb-true y x e)))
