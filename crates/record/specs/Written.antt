-- Writing the record of some bytes into a buffer: what it is refused for, and what the buffer then holds.
-- Assumes nothing.
use Rattle.std.specs.Prelude.{List, ℕ, eqb, length}
use Rattle.std.proofs.Math.Option.{Option}
use Rattle.refusal.specs.Chain.{require, passed, left_by}
use Rattle.refusal.specs.Number.{refusal_plain}
use Rattle.refusal.specs.declared.Reason.TheVariants.{Size, Room}
use Rattle.refusal.specs.declared.Refusal.{Refusal}
use Rattle.record.specs.Record.{record_of}

-- 21, 23: the bytes, and room for so many
unfoldable pub written_refusal : List ℕ → ℕ → Option Refusal
written_refusal bytes room =
    require (eqb (length bytes) 248) (refusal_plain Size) (require (eqb room 248) (refusal_plain Room) passed)

-- the record of the bytes, or what was there
unfoldable pub written : List ℕ → List ℕ → List ℕ
written bytes old = left_by (written_refusal bytes (length old)) (record_of bytes) old
