-- Packing: what it is refused for, in the order of the checks, what it answers and what it leaves.
-- Assumes nothing.
use Rattle.std.specs.Prelude.{Bool, List, ℕ, eqb, length}
use Rattle.std.proofs.Math.Option.{Option}
use Rattle.refusal.specs.Chain.{require, passed, left_by}
use Rattle.refusal.specs.Number.{refusal_plain}
use Rattle.refusal.specs.declared.Reason.TheVariants.{Length, Wide, Flag, FieldHead, Room}
use Rattle.refusal.specs.declared.Refusal.{Refusal}
use Rattle.anc.specs.Words.{has_flag, narrow}
use Rattle.refusal.specs.Checked.{Checked, checked_of}
use Rattle.b40.specs.Field.{is_place, field_of}

-- 1, 2, 3, 26, 23: the words, the line and offset, and room for so many bytes
unfoldable pub pack_refusal : ℕ → ℕ → List ℕ → ℕ → Option Refusal
pack_refusal line offset words room =
    require (eqb (length words) 262) (refusal_plain Length)
    (require (narrow words) (refusal_plain Wide)
    (require (has_flag words) (refusal_plain Flag)
    (require (is_place line offset) (refusal_plain FieldHead) (require (eqb room 328) (refusal_plain Room) passed))))

-- the answer
unfoldable pub packed_of : ℕ → ℕ → List ℕ → ℕ → Checked
packed_of line offset words room = checked_of (pack_refusal line offset words room)

-- what is left in the lent buffer: the field, or what was there
unfoldable pub pack_leaves : Bool → ℕ → ℕ → List ℕ → List ℕ → List ℕ
pack_leaves yc line offset words old = left_by (pack_refusal line offset words (length old)) (field_of yc line offset words) old
