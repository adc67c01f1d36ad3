-- A run of entries: that it is refused for its first entry that is, which numbers it does not refuse with, and a loop that looks for that entry.
-- Assumes nothing.
use mathlib.Core.Path.{◌≡◌, refl, sym, ap, ◌∙◌}
use mathlib.Core.List.{List, [], ◌∷◌}
use mathlib.Core.Logic.{◌↔◌}
use mathlib.Core.Option.{Option, none, some}
use Prim.Native.Nat.{ℕ, zero, suc, ◌+◌, ◌≤◌, ◌<◌}
use native.Mathlib.Nat.{le_of_suc-le-suc, not-suc-le-zero, add-zero, add-suc}
use native.Mathlib.Numerals.{add-one}
use native.Mathlib.Omega.{arith}
use lib.ListN.{length, get_or, drop, drop_of_length-le}
use lib.Seq.{drop-cons}
use Rattle.refusal.specs.Chain.{next}
use Rattle.std.specs.Prelude.{Ok, Err}
use Rattle.refusal.specs.Checked.{Checked, checked_of, refusal_in}
use Rattle.refusal.specs.Run.{first_from, FirstRefused}
use Rattle.refusal.specs.declared.Refusal.{Refusal}
use Rattle.refusal.proofs.Laws.Chain.{passed-other, Without, without-passed, without-next, refusal-in, next-next, answer-all}

-- one entry further, one number further
on : (n i : ℕ) → n + suc i ≡ suc n + i
on n i = omega arith

module _ (refuses : ℕ → ℕ → Option Refusal) where
  -- ---- the first that is refused

  -- it is at the head
  first_head : (n x : ℕ) (l : List ℕ) (why : Refusal) → refuses n x ≡ some why → FirstRefused refuses n (x ∷ l) why
  first_head n x l why e = record { before = 0; within = omega arith; here = rw (add-zero n) e; earlier = λ i h. absurd (not-suc-le-zero h) }

  -- or behind one that is not
  first-behind : (n x : ℕ) (l : List ℕ) (why : Refusal) → refuses n x ≡ none → FirstRefused refuses (suc n) l why → FirstRefused refuses n (x ∷ l) why
  first-behind n x l why e f = record {
    before = suc f.before;
    within = omega (arith, f.within);
    here = rw (on n f.before) f.here;
    earlier = earlier;
  }
    where
      earlier : (i : ℕ) → i < suc f.before → refuses (n + i) (get_or (x ∷ l) i 0) ≡ none
      earlier zero h = rw (add-zero n) e
      earlier (suc i) h = rw (on n i) (f.earlier i (le_of_suc-le-suc h))

  first-given : (n : ℕ) (l : List ℕ) (why : Refusal) → first_from refuses n l ≡ some why → FirstRefused refuses n l why
  unfolding first_from
  first-given n [] why e = absurd (passed-other why e)
  first-given n (x ∷ l) why e = by (refuses n x) refl (first-given (suc n) l why) e
    where
      by : (o : Option Refusal) → refuses n x ≡ o → (first_from refuses (suc n) l ≡ some why → FirstRefused refuses (suc n) l why)
          → next o (first_from refuses (suc n) l) ≡ some why → FirstRefused refuses n (x ∷ l) why
      by none d later e = first-behind n x l why d (later e)
      by (some other) d later e = first_head n x l why (d ∙ e)

  gives-first : (n : ℕ) (l : List ℕ) (why : Refusal) (k : ℕ) → k < length l → refuses (n + k) (get_or l k 0) ≡ some why
      → ((i : ℕ) → i < k → refuses (n + i) (get_or l i 0) ≡ none) → first_from refuses n l ≡ some why
  unfolding first_from
  gives-first n [] why k h e before = absurd (not-suc-le-zero h)
  gives-first n (x ∷ l) why zero h e before = ap (λ (o : Option Refusal). next o (first_from refuses (suc n) l)) (rw (add-zero n) at e)
  gives-first n (x ∷ l) why (suc k) h e before =
      ap (λ (o : Option Refusal). next o (first_from refuses (suc n) l)) (rw (add-zero n) at (before 0 (omega arith)))
      ∙ gives-first (suc n) l why k (le_of_suc-le-suc h) (rw (on n k) at e) (λ i j. rw (on n i) at (before (suc i) (omega arith)))

  pub first-exactly : (n : ℕ) (l : List ℕ) (why : Refusal) → (first_from refuses n l ≡ some why) ↔ FirstRefused refuses n l why
  first-exactly n l why = (first-given n l why, λ F. gives-first n l why F.before F.within F.here F.earlier)

  -- ---- a number that it does not refuse with

  pub first-without : {m : ℕ} → ((n x : ℕ) → Without m (refuses n x)) → (n : ℕ) (l : List ℕ) → Without m (first_from refuses n l)
  unfolding first_from
  first-without w n [] = without-passed
  first-without w n (x ∷ l) = without-next _ (w n x) (first-without w (suc n) l)

  -- ---- a loop that goes through the entries

  -- i entries have been passed, and `found` is what the first of them that is refused is refused for
  pub record Walked (n : ℕ) (l : List ℕ) (i : ℕ) (found : Checked) : Type 0 where
    pub within : i ≤ length l
    pub so_far : first_from refuses n l ≡ next (refusal_in found) (first_from refuses (n + i) (drop i l))

  module _ (n : ℕ) (l : List ℕ) where
    -- none yet
    pub walked_none : Walked n l 0 (Ok tt)
    walked_none = record { within = omega arith; so_far = rw (add-zero n) refl }

    module _ (i : ℕ) (found : Checked) (p : Walked n l i found) where
      abbrev here : Option Refusal
      here = refuses (n + i) (get_or l i 0)

      abbrev later : Option Refusal
      later = first_from refuses (n + (i + 1)) (drop (i + 1) l)

      -- the entry at i, and then the rest
      step : i < length l → first_from refuses (n + i) (drop i l) ≡ next here later
      unfolding first_from
      step h = rw (add-one i, add-suc n i, drop-cons l i 0 h) refl

      -- one more
      pub walked_more : i < length l → (a b : Checked) → a ≡ checked_of here → b ≡ checked_of (next (refusal_in found) (refusal_in a)) → Walked n l (i + 1) b
      walked_more h a b ea eb =
          let before : Option Refusal = refusal_in found in
          let now-found : refusal_in b ≡ next before (refusal_in a) = ap refusal_in eb ∙ refusal-in (next before (refusal_in a)) in
          let is-here : refusal_in a ≡ here = ap refusal_in ea ∙ refusal-in here in
          let both : refusal_in b ≡ next before here = now-found ∙ ap (next before) is-here in
          record {
            within = omega arith;
            so_far = p.so_far ∙ ap (next before) (step h) ∙ sym (next-next before here later) ∙ ap (λ (o : Option Refusal). next o later) (sym both);
          }

      -- all of them
      pub walked_all : length l ≤ i → found ≡ checked_of (first_from refuses n l)
      unfolding first_from
      walked_all h =
          let end : first_from refuses n l ≡ next (refusal_in found) none = p.so_far ∙ ap (next (refusal_in found)) (rw (drop_of_length-le l h)) in
          answer-all found ∙ sym (ap checked_of end)

    -- ---- one that stops at the first that is refused

    module _ (i : ℕ) (p : Walked n l i (Ok tt)) (h : i < length l) where
      pub walked_on : refuses (n + i) (get_or l i 0) ≡ none → Walked n l (i + 1) (Ok tt)
      walked_on e = walked_more i (Ok tt) p h (Ok tt) (Ok tt) (sym (ap checked_of e)) refl

      pub walked-stops : (why : Refusal) → refuses (n + i) (get_or l i 0) ≡ some why → Err why ≡ checked_of (first_from refuses n l)
      walked-stops why e = sym (ap checked_of (walked_more i (Ok tt) p h (Err why) (Err why) (sym (ap checked_of e)) refl).so_far)
