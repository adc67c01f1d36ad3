-- Bytes put over others: what stands before their place, in it and behind it, and that what stood there, put back, gives the old bytes.
-- Assumes nothing.
use mathlib.Core.Path.{◌≡◌, refl, ap, ◌∙◌}
use mathlib.Core.List.{List, ◌++◌, append_assoc}
use Prim.Native.Nat.{ℕ, ◌+◌, ◌-◌, ◌≤◌}
use native.Mathlib.Nat.{zero-add}
use native.Mathlib.Omega.{arith}
use lib.ListN.{length, take, drop, length-append, length-drop, take-append-drop}
use lib.Seq.{length-take-le, take_at, drop_at, drop-drop}
use Rattle.items.specs.Item.{put}
use Rattle.basics.proofs.Laws.Parts.{part_same}

module _ (old new : List ℕ) (at : ℕ) (fits : at + length new ≤ length old) where
  head-length : length (take at old) ≡ at
  head-length = length-take-le at old (omega arith)

  front_length : length (take at old ++ new) ≡ at + length new
  front_length = length-append (take at old) new ∙ ap (λ (n : ℕ). n + length new) head-length

  pub put-length : length (put old at new) ≡ length old
  unfolding put
  put-length = simp (length-append, head-length, length-drop) (omega arith)

  -- before the place, in it, and behind it
  pub put-before : take at (put old at new) ≡ take at old
  unfolding put
  put-before = rw append_assoc (take_at (take at old) _ at head-length)

  pub put-there : take (length new) (drop at (put old at new)) ≡ new
  unfolding put
  put-there = rw (append_assoc, drop_at (take at old) (new ++ drop (at + length new) old) at head-length) (take_at new _ (length new) refl)

  pub put-behind : drop (at + length new) (put old at new) ≡ drop (at + length new) old
  unfolding put
  put-behind = drop_at (take at old ++ new) _ (at + length new) front_length

put_is : (old new : List ℕ) (at : ℕ) → put old at new ≡ (take at old ++ new) ++ drop (at + length new) old
unfolding put
put_is old new at = refl

-- what stood there, put back
pub put_back : (old new back : List ℕ) (at : ℕ) → at + length new ≤ length old → back ≡ take (length new) (drop at old) → put (put old at new) at back ≡ old
put_back old new back at fits e =
    let n : length back ≡ length new = ap length e ∙ length-take-le (length new) (drop at old) (simp length-drop (omega arith)) in
    put_is (put old at new) back at
    ∙ rw (n, put-before old new at fits, put-behind old new at fits, e, append_assoc, ← drop-drop (length new) at old, take-append-drop (length new) (drop at old))
    (take-append-drop at old)

-- ---- a part before a place up to which two lists are the same, and one behind

pub behind : (x y : List ℕ) (s n m : ℕ) → drop s x ≡ drop s y → s ≤ n → take m (drop n x) ≡ take m (drop n y)
behind x y s n m e h =
    let k : n ≡ s + (n - s) = omega arith in
    rw (k, ← drop-drop (n - s) s x, ← drop-drop (n - s) s y, e)

pub before : (x y : List ℕ) (s n m : ℕ) → take s x ≡ take s y → n + m ≤ s → take m (drop n x) ≡ take m (drop n y)
before x y s n m e h = rw zero-add at (part_same x y 0 s n m e h)
