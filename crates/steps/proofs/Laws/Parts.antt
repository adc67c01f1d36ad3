-- How a step is made of an item's bytes, the steps have one more, and the bytes before a step are put back.
-- Assumes nothing.
use mathlib.Core.Path.{◌≡◌, refl, ap, ◌∙◌}
use mathlib.Core.Bool.{Bool, true, false, cond}
use mathlib.Core.List.{List, [], ◌∷◌, ◌++◌}
use mathlib.Core.Logic.{⊎_elim}
use Prim.Native.Nat.{ℕ, ◌≤◌, ◌<◌}
use native.Mathlib.Omega.{arith}
use lib.Dec.{T, eqb, leb, leb→le}
use lib.ListN.{length, set, take, drop, length-drop}
use lib.Seq.{set_at, take_all}
use borrow.Author.Tests.{eqb-true, lt-ltb, le-ltb}
use Rattle.basics.proofs.Laws.Test.{lt-or-le, below, below_at}
use Rattle.items.specs.Items.{items}
use Rattle.items.specs.Item.{row_of, place_in, place_of, place_refusal, item_part}
use mathlib.Core.Option.{none}
use Rattle.std.specs.Prelude.{Ok}
use Rattle.items.specs.declared.ItemPlace.{ItemPlace}
use Rattle.record.specs.Stored.{item_lent, put_refusal, put_leaves}
use Rattle.items.proofs.Laws.Item.{row-none}
use Rattle.refusal.specs.Checked.{Checked, checked_of}
use Rattle.record.proofs.Laws.Stored.{part-long}
use Rattle.steps.specs.declared.Step.{Step}
use Rattle.steps.specs.Steps.{step_room, padded, step_of, step_refusal, kept_of, pushed, old_of, back_refusal, back_from}

-- ---- a step

all_short : T (below (λ (n : ℕ). leb (place_of n).length step_room) 14)
unfolding place_of place_in row_of items
all_short = tt

-- a step has room for every item
pub short : (n : ℕ) → (place_of n).length ≤ step_room
unfolding place_of place_in
short n = ⊎_elim (λ h. leb→le (place_of n).length step_room (below_at (λ (n : ℕ). leb (place_of n).length step_room) 14 all_short n h)) (λ h. rw (row-none n (omega arith)) (omega arith)) (lt-or-le n 14)

-- and so for what is handed out of any number of bytes
pub lent-short : (n : ℕ) (bytes : List ℕ) → length (item_lent n bytes) ≤ step_room
unfolding item_lent
lent-short n bytes = by (eqb (length bytes) 248) refl
  where
    by : (t : Bool) → eqb (length bytes) 248 ≡ t → length (cond t (item_part n bytes) []) ≤ step_room
    by true e = omega (arith, part-long n bytes (eqb-true (length bytes) 248 e), short n)
    by false e = omega arith

-- and kept where nothing is refused
pub kept-step : (item : ℕ) (bytes old : List ℕ) → place_refusal item ≡ none → eqb (length bytes) 248 ≡ true → old ≡ padded (item_lent item bytes)
    → Ok (record { item = item; old = old }) ≡ kept_of item bytes
unfolding kept_of step_refusal step_of
kept-step item bytes old p n e = rw (p, n) (ap (λ (o : List ℕ). Ok (record { item = item; old = o })) e)

-- ---- the steps with one more

pub pushed-few : (steps : List Step) (count : ℕ) (s : Step) → count < 32 → set steps count s ≡ pushed steps count s
unfolding pushed
pushed-few steps count s h = simp (lt-ltb count 32 h)

set_last : {A : Type 0} (p r : List A) (n : ℕ) (a : A) → length p ≡ n → length r ≡ 1 → set (p ++ r) n a ≡ p ++ (a ∷ [])
set_last p [] n a h k = absurd (let z : ◌≡◌ {A = ℕ} 0 1 = k in omega arith)
set_last p (y ∷ []) n a h k = set_at p y [] a n h
set_last p (y ∷ z ∷ r) n a h k = absurd (omega (arith, k))

-- all moved down by one, and the last stored
pub pushed-full : (steps : List Step) (count : ℕ) (s : Step) → length steps ≡ 32 → 32 ≤ count → set (take 31 (drop 1 steps) ++ drop 31 steps) 31 s ≡ pushed steps count s
unfolding pushed
pushed-full steps count s n h =
    let d : length (drop 1 steps) ≡ 31 = simp length-drop (omega arith) in
    let r : length (drop 31 steps) ≡ 1 = simp length-drop (omega arith) in
    simp (le-ltb count 32 h, take_all 31 (drop 1 steps) (omega arith)) (set_last (drop 1 steps) (drop 31 steps) 31 s d r)

-- ---- the bytes before a step

pub back-put : (s : Step) (p : ItemPlace) (bytes new : List ℕ) (a : Checked) → p ≡ place_of s.item → a ≡ checked_of (put_refusal s.item (take p.length s.old) (length bytes))
    → new ≡ put_leaves s.item (take p.length s.old) bytes → (a ≡ checked_of (back_refusal s (length bytes))) × (new ≡ back_from s bytes)
unfolding back_refusal back_from
back-put s p bytes new a q r e =
    let same : take p.length s.old ≡ old_of s = ap (λ (o : ItemPlace). take o.length s.old) q in
    (r ∙ ap (λ (l : List ℕ). checked_of (put_refusal s.item l (length bytes))) same, e ∙ ap (λ (l : List ℕ). put_leaves s.item l bytes) same)
