-- The steps of a history: how many are kept, the bytes that a step keeps, one step more, and the bytes before a step.
-- Assumes nothing.
use Rattle.std.specs.Prelude.{Result, cond, List, [], ◌∷◌, ◌++◌, ℕ, ◌+◌, eqb, ltb, length, take, drop, set, replicate}
use Rattle.std.proofs.Math.Option.{Option}
use Rattle.refusal.specs.Chain.{require, next, passed}
use Rattle.refusal.specs.Checked.{answer_of}
use Rattle.refusal.specs.Number.{refusal_plain}
use Rattle.refusal.specs.declared.Reason.TheVariants.{Size}
use Rattle.refusal.specs.declared.Refusal.{Refusal}
use Rattle.items.specs.Item.{place_of, place_refusal}
use Rattle.record.specs.Stored.{item_lent, put_refusal, put_leaves}
use Rattle.steps.specs.declared.Step.{Step}

-- how many steps the history holds, and how many bytes a step has room for
abbrev pub depth : ℕ
depth = 32

abbrev pub step_room : ℕ
step_room = 141

-- ---- the steps, the oldest first; those from the count on are not there

-- a count above the depth, which no opening leads to, is taken for the depth
unfoldable pub held_of : ℕ → ℕ
held_of count = cond (ltb depth count) depth count

-- with one more step; the oldest goes where there is no room
unfoldable pub pushed : List Step → ℕ → Step → List Step
pushed steps count s = cond (ltb count depth) (set steps count s) (drop 1 steps ++ s ∷ [])

unfoldable pub count_on : ℕ → ℕ
count_on count = cond (ltb count depth) (count + 1) depth

-- what the logic reads past the end of the steps
abbrev pub blank : Step
blank = record { item = 0; old = [] }

-- ---- one step

-- bytes, and zeros behind them up to a step's room
unfoldable pub padded : List ℕ → List ℕ
padded bytes = bytes ++ drop (length bytes) (replicate step_room 0)

-- the bytes that an item has in a record of 248
unfoldable pub step_of : ℕ → List ℕ → Step
step_of item bytes = record { item = item; old = padded (item_lent item bytes) }

-- 20, 21: an item, of a record of 248 bytes
unfoldable pub step_refusal : ℕ → List ℕ → Option Refusal
step_refusal item bytes = next (place_refusal item) (require (eqb (length bytes) 248) (refusal_plain Size) passed)

-- the step, or that refusal
unfoldable pub kept_of : ℕ → List ℕ → Result Step Refusal
kept_of item bytes = answer_of (step_refusal item bytes) (step_of item bytes)

-- as many bytes of a step as its item has
abbrev pub old_of : Step → List ℕ
old_of s = take (place_of s.item).length s.old

-- 20, 21, 23: what putting them back is refused for; 21 is for a step with fewer bytes than its item has, which none is
unfoldable pub back_refusal : Step → ℕ → Option Refusal
back_refusal s room = put_refusal s.item (old_of s) room

-- the bytes before a step, or what was there
unfoldable pub back_from : Step → List ℕ → List ℕ
back_from s bytes = put_leaves s.item (old_of s) bytes
