-- Writing a packet, of the record of 248 bytes or of the bytes as they stand: what it is refused for, in the order of the checks, and what is written.
-- Assumes nothing.
use Rattle.std.specs.Prelude.{Bool, List, ℕ, eqb, leb, length}
use Rattle.std.proofs.Math.Option.{Option}
use Rattle.refusal.specs.Chain.{require, next, passed}
use Rattle.refusal.specs.Number.{refusal_plain}
use Rattle.refusal.specs.declared.Reason.TheVariants.{Size, Index, Room}
use Rattle.refusal.specs.declared.Refusal.{Refusal}
use Rattle.record.specs.Record.{content_refusal, record_of}
use Rattle.writing.specs.Layout.{packet_words}

-- 21, 27: the bytes and the index that are given
unfoldable pub given_refusal : ℕ → List ℕ → Option Refusal
given_refusal ci bytes = require (eqb (length bytes) 248) (refusal_plain Size) (require (leb ci 15) (refusal_plain Index) passed)

-- 23: room for so many words
abbrev pub room_refusal : ℕ → Option Refusal
room_refusal room = require (eqb room 262) (refusal_plain Room) passed

-- 21, 27, 15, 11 to 14, 23: the record of the bytes, into room for so many words
unfoldable pub write_refusal : ℕ → List ℕ → ℕ → Option Refusal
write_refusal ci bytes room = next (given_refusal ci bytes) (next (content_refusal bytes) (room_refusal room))

-- 21, 27, 23: the bytes as they stand, whatever is in them
unfoldable pub layout_refusal : ℕ → List ℕ → ℕ → Option Refusal
layout_refusal ci bytes room = next (given_refusal ci bytes) (room_refusal room)

-- the words of the bytes' record
unfoldable pub written_words : Bool → ℕ → List ℕ → List ℕ
written_words correction ci bytes = packet_words correction ci (record_of bytes)
