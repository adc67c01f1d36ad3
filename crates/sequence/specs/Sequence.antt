-- How a packet stands to the one accepted before it: the step from its index, the kind, what was missed, and what the kind adds to the counts.
-- Assumes nothing.
use Rattle.std.specs.Prelude.{Bool, cond, ℕ, ◌+◌, ◌-◌, ◌%◌, eqb}
use Rattle.sequence.specs.declared.Kind.{Kind}
use Rattle.sequence.specs.declared.Kind.TheVariants.{First, Next, Repeat, Conflict}

-- d: the new CI less the last one, modulo 16
unfoldable pub step_of : ℕ → ℕ → ℕ
step_of last new = (new + 16 - last % 16) % 16

-- FIRST; later, by d and by whether the record is equal to the one held
unfoldable pub kind_of : Bool → ℕ → Bool → Kind
kind_of started d equal = cond started (cond (eqb d 0) (cond equal Repeat Conflict) Next) First

-- d - 1 for NEXT, and 0 for the other three
abbrev pub missed_of : Kind → ℕ → ℕ
missed_of First d = 0
missed_of Next d = d - 1
missed_of Repeat d = 0
missed_of Conflict d = 0

-- is it a repeat? 1 or 0
abbrev pub repeats_in : Kind → ℕ
repeats_in First = 0
repeats_in Next = 0
repeats_in Repeat = 1
repeats_in Conflict = 0

-- is it a conflict? 1 or 0
abbrev pub conflicts_in : Kind → ℕ
conflicts_in First = 0
conflicts_in Next = 0
conflicts_in Repeat = 0
conflicts_in Conflict = 1
