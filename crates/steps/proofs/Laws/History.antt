-- The history that steps stand for: the records before each of them, the newest first, and what one more step, or one fewer, makes of it.
-- Assumes nothing.
use mathlib.Core.Path.{◌≡◌, refl, sym, ap, ◌∙◌}
use mathlib.Core.List.{List, [], ◌∷◌, ◌++◌, reverse, reverse-append, reverse_aux-eq}
use mathlib.Core.Logic.{⊎_elim}
use Prim.Native.Nat.{ℕ, zero, suc, ◌+◌, ◌-◌, ◌≤◌, ◌<◌}
use native.Mathlib.Numerals.{add-one}
use native.Mathlib.Omega.{arith}
use lib.ListN.{length, take, drop, get_or, replicate, length-append, length-reverse, length-take, length-drop, length-set}
use lib.Seq.{take-suc, take-suc-set, take_all, take_at}
use borrow.Author.Tests.{lt-ltb, le-ltb}
use Rattle.basics.proofs.Laws.Test.{lt-or-le}
use Rattle.items.specs.Item.{place_of, item_part, put_item}
use Rattle.record.specs.Stored.{item_lent}
use Rattle.record.proofs.Laws.Stored.{part-long, leaves-put, put-item-length, put-item-back}
use Rattle.steps.specs.declared.Step.{Step}
use Rattle.steps.specs.Steps.{step_room, held_of, pushed, count_on, blank, padded, step_of, back_from}

-- the steps that are there, the newest first
unfoldable pub newest : List Step → ℕ → List Step
newest steps count = reverse (take count steps)

-- the records before each of these steps, from a record back
unfoldable pub unwound : List Step → List ℕ → List (List ℕ)
unwound [] r = []
unwound (s ∷ ss) r = back_from s r ∷ unwound ss (back_from s r)

pub unwound-step : (s : Step) (ss : List Step) (r : List ℕ) → unwound (s ∷ ss) r ≡ back_from s r ∷ unwound ss (back_from s r)
unfolding unwound
unwound-step s ss r = refl

pub unwound-take : (k : ℕ) (ss : List Step) (r : List ℕ) → unwound (take k ss) r ≡ take k (unwound ss r)
unfolding unwound
unwound-take zero ss r = refl
unwound-take (suc k) [] r = refl
unwound-take (suc k) (s ∷ ss) r = ap (λ (l : List (List ℕ)). back_from s r ∷ l) (unwound-take k ss (back_from s r))

-- ---- how many steps there are

pub held-few : (count : ℕ) → count ≤ 32 → held_of count ≡ count
unfolding held_of
held-few count h = simp (le-ltb 32 count h)

-- ---- one step more

turn : (xs : List Step) (s : Step) → reverse (xs ++ (s ∷ [])) ≡ s ∷ reverse xs
turn xs s = reverse-append xs (s ∷ [])

module _ (steps : List Step) (s : Step) (n : length steps ≡ 32) where
  -- below 32 steps
  push-few : (count : ℕ) → count < 32 → newest (pushed steps count s) (count_on count) ≡ take 32 (s ∷ newest steps count)
  unfolding pushed newest count_on
  push-few count h =
      let m : length (s ∷ reverse (take count steps)) ≤ 32 = simp (length-reverse, length-take) (omega arith) in
      simp (lt-ltb count 32 h)
      (rw (add-one, take-suc-set steps count s (omega arith), turn, take_all 32 (s ∷ reverse (take count steps)) m))

pub pushed-length : (steps : List Step) (count : ℕ) (s : Step) → length steps ≡ 32 → length (pushed steps count s) ≡ 32
unfolding pushed
pushed-length steps count s n =
    ⊎_elim (λ h. simp (lt-ltb count 32 h, length-set) n) (λ h. simp (le-ltb count 32 h, length-append, length-drop) (omega arith)) (lt-or-le count 32)

-- at 32 steps the oldest goes
push-full : (steps : List Step) (s : Step) → length steps ≡ 32 → newest (pushed steps 32 s) (count_on 32) ≡ take 32 (s ∷ newest steps 32)
unfolding pushed newest count_on
push-full [] s n = absurd (let z : ◌≡◌ {A = ℕ} 0 32 = n in omega arith)
push-full (x ∷ xs) s n =
    let m : length xs ≡ 31 = omega (arith, n) in
    let e : length (xs ++ (s ∷ [])) ≤ 32 = simp length-append (omega arith) in
    let r : length (reverse xs) ≡ 31 = length-reverse xs ∙ m in
    rw (take_all 32 (xs ++ (s ∷ [])) e, turn, take_all 31 xs (omega arith), reverse_aux-eq xs (x ∷ []), take_at (reverse xs) (x ∷ []) 31 r)

pub push-newest : (steps : List Step) (count : ℕ) (s : Step) → length steps ≡ 32 → count ≤ 32
    → newest (pushed steps count s) (count_on count) ≡ take 32 (s ∷ newest steps count)
push-newest steps count s n h =
    ⊎_elim (push-few steps s n count) (λ k. let e : count ≡ 32 = omega arith in rw e (push-full steps s n)) (lt-or-le count 32)

-- how many there are then: one more below 32, else 32
count_by : (P : ℕ → Type 0) (count : ℕ) → (count < 32 → P (count + 1)) → (32 ≤ count → P 32) → P (count_on count)
unfolding count_on
count_by P count f g = ⊎_elim (λ k. simp (lt-ltb count 32 k) (f k)) (λ k. simp (le-ltb count 32 k) (g k)) (lt-or-le count 32)

pub count-more : (count : ℕ) → count ≤ 32 → (l : List (List ℕ)) (r : List ℕ) → count ≡ length l → count_on count ≡ length (take 32 (r ∷ l))
count-more count h l r e =
    count_by (λ (n : ℕ). n ≡ length (take 32 (r ∷ l))) count (λ k. simp length-take (omega arith)) (λ k. simp length-take (omega arith))

count-some : (count : ℕ) → 0 < count_on count
count-some count = count_by (λ (n : ℕ). 0 < n) count (λ k. omega arith) (λ k. omega arith)

pub count-few : (count : ℕ) → count ≤ 32 → count_on count ≤ 32
count-few count h = count_by (λ (n : ℕ). n ≤ 32) count (λ k. omega arith) (λ k. omega arith)

-- from what was put into an item's place, its step leads back
pub back-from-step : (item : ℕ) (new r : List ℕ) → length r ≡ 248 → length new ≡ (place_of item).length → back_from (step_of item r) (put_item item new r) ≡ r
unfolding back_from step_of padded item_lent
back-from-step item new r h l =
    let p = part-long item r h in
    rw (
      h,
      take_at (item_part item r) (drop (length (item_part item r)) (replicate step_room 0)) (place_of item).length p,
      leaves-put item (item_part item r) (put_item item new r) p (put-item-length item r h new l),
    )
    (put-item-back item r h new l)

-- ---- one step fewer

pub pop : (steps : List Step) (count : ℕ) → 0 < count → count ≤ length steps → newest steps count ≡ get_or steps (count - 1) blank ∷ newest steps (count - 1)
unfolding newest
pop steps count some few =
    let e : count ≡ suc (count - 1) = omega arith in
    let h : count - 1 < length steps = omega arith in
    ap (λ (n : ℕ). reverse (take n steps)) e ∙ rw (take-suc steps (count - 1) blank h, turn)

-- the step that was pushed is the latest
pub push-latest : (steps : List Step) (count : ℕ) (s : Step) → length steps ≡ 32 → count ≤ 32 → get_or (pushed steps count s) (count_on count - 1) blank ≡ s
push-latest steps count s n h =
    let popped = pop (pushed steps count s) (count_on count) (count-some count) (omega (arith, pushed-length steps count s n, count-few count h)) in
    ap (λ (l : List Step). get_or l 0 blank) (sym popped ∙ push-newest steps count s n h)
