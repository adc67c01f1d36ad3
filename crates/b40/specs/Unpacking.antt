-- Unpacking: what it is refused for, in the order of the checks, what it answers and leaves, and what each of its answers says.
-- Assumes nothing.
use Rattle.std.specs.Prelude.{Result, Ok, Err, ◌&&◌, List, ℕ, eqb, length}
use Rattle.std.proofs.Math.Option.{Option, none, some}
use Rattle.refusal.specs.Chain.{require, passed, left_by}
use Rattle.refusal.specs.Checked.{answer_of}
use Rattle.refusal.specs.Number.{refusal_plain}
use Rattle.refusal.specs.declared.Reason.TheVariants.{FieldLength, FieldHead, Room}
use Rattle.refusal.specs.declared.Refusal.{Refusal}
use Rattle.b40.specs.declared.Head.{Head}
use Rattle.b40.specs.Field.{part, yc_of, line_of, offset_of, words_of, is_place}

-- ---- what an answer says, for every case of it; its refusal is `refusal_in`

-- Y/C, line and offset
abbrev pub head_in : Result Head Refusal → Option Head
head_in (Ok h) = some h
head_in (Err why) = none

-- ---- the answer

-- 25, 26, 23: the field, its head, and room for so many words
unfoldable pub unpack_refusal : List ℕ → ℕ → Option Refusal
unpack_refusal field room =
    require (eqb (length field) 328) (refusal_plain FieldLength)
    (require (eqb (part field 0 6) 0 && is_place (line_of field) (offset_of field)) (refusal_plain FieldHead)
    (require (eqb room 262) (refusal_plain Room) passed))

-- the head that a field holds
unfoldable pub head_of : List ℕ → Head
head_of field = record { yc = yc_of field; line = line_of field; offset = offset_of field }

-- into room for so many words: the refusal where there is one, else the head
unfoldable pub unpacked_of : List ℕ → ℕ → Result Head Refusal
unpacked_of field room = answer_of (unpack_refusal field room) (head_of field)

-- what is left in the lent buffer: the words, or what was there
unfoldable pub unpack_leaves : List ℕ → List ℕ → List ℕ
unpack_leaves field old = left_by (unpack_refusal field (length old)) (words_of field) old
