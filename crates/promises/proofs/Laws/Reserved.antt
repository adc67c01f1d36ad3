-- The reserved area, as the calls treat it: 15 is given exactly where a byte of it is not zero, at the first, and what is accepted loses nothing there.
-- Assumes nothing.
use mathlib.Core.Path.{◌≡◌, sym, ap, ◌∙◌}
use mathlib.Core.Bool.{Bool}
use mathlib.Core.List.{List}
use mathlib.Core.Logic.{◌↔◌}
use mathlib.Core.Option.{Option, some}
use Prim.Native.Nat.{ℕ, ◌≤◌}
use lib.ListN.{length}
use Rattle.std.specs.Prelude.{Result, Ok}
use Rattle.refusal.specs.Checked.{Checked, refusal_in}
use Rattle.refusal.specs.Number.{refusal_at}
use Rattle.refusal.specs.declared.Reason.TheVariants.{ReservedArea}
use Rattle.refusal.specs.declared.Refusal.{Refusal}
use Rattle.refusal.proofs.Laws.Chain.{refusal-in, refusal-in-answer}
use Rattle.record.specs.Reserved.{reserved_area, FirstUsed}
use Rattle.record.specs.Record.{record_of, record_refusal}
use Rattle.record.proofs.Laws.Reserved.{used-first, refusal-first}
use Rattle.record.proofs.Laws.Record.{record-keeps}
use Rattle.view.specs.declared.RecordView.{RecordView}
use Rattle.view.specs.Read.{record_read_of}
use Rattle.writing.proofs.Laws.Writing.{refusal-said, write-used, done-wrote}
use Rattle.reading.specs.declared.Packet.{Packet}
use Rattle.reading.specs.Reading.{read_bytes, UpToSum}
use Rattle.reading.proofs.Laws.Used.{read-used, into-used}
use Rattle.reading.proofs.Laws.Whole.{read-reserved}
use Rattle.follower.specs.declared.Follower.{Follower}
use Rattle.follower.specs.declared.Followed.{Followed}
use Rattle.promises.specs.Calls.{Follows}
use Rattle.promises.specs.PacketCalls.{ChecksRecord, ReadsRecord, Writes, ReadsPacket, ReadsInto}
use Rattle.promises.specs.Reserved.{ReservedExactly}
use Rattle.promises.proofs.Laws.PacketCalls.{checks-record-is, reads-record-is, writes-is}
use Rattle.promises.proofs.Laws.Packets.{read-tells, into-tells, follow-tells, accepted, record-left}

-- ---- when 15 is given

-- what the definitions give, by what a call tells
told : (Before : Type 0) (bytes : List ℕ) (o p : Option Refusal) → o ≡ p
    → ((place : ℕ) → (o ≡ some (refusal_at ReservedArea place)) ↔ (Before × FirstUsed bytes place)) → ReservedExactly p Before bytes
told Before bytes o p e at =
    rw (← e)
    (record { at = at; given = λ b n u. let (place, F) = used-first bytes n u in (place, (at place).1 (b, F)) })

-- 248 bytes: before it 21
pub record-refusal-reserved : (bytes : List ℕ) (a : Checked) → ChecksRecord bytes a → ReservedExactly (refusal_in a) (length bytes ≡ 248) bytes
record-refusal-reserved bytes a C = told _ bytes _ _ (sym (ap refusal_in (checks-record-is bytes a C) ∙ refusal-in (record_refusal bytes))) (refusal-first bytes)

pub read-record-reserved : (bytes : List ℕ) (a : Result RecordView Refusal) → ReadsRecord bytes a → ReservedExactly (refusal_in a) (length bytes ≡ 248) bytes
unfolding record_read_of
read-record-reserved bytes a R =
    told _ bytes _ _ (sym (ap refusal_in (reads-record-is bytes a R) ∙ refusal-in-answer (record_refusal bytes) _)) (refusal-first bytes)

-- writing: before it 21 and 27
pub write-packet-reserved : (on : Bool) (ci : ℕ) (bytes old : List ℕ) (a : Checked) (left : List ℕ) → Writes on ci bytes old a left
    → ReservedExactly (refusal_in a) ((length bytes ≡ 248) × (ci ≤ 15)) bytes
write-packet-reserved on ci bytes old a left W =
    told _ bytes _ _ (sym (ap refusal_in (writes-is on ci bytes old a left W) ∙ refusal-said ci bytes (length old))) (write-used ci bytes (length old))

-- a packet: before it 1 to 10
pub read-packet-reserved : (words : List ℕ) (a : Result Packet Refusal) → ReadsPacket words a → ReservedExactly (refusal_in a) (UpToSum words) (read_bytes words)
read-packet-reserved words a R = told _ (read_bytes words) _ _ (read-tells words a R) (read-used words)

-- into any room
pub read-into-reserved : (words old : List ℕ) (a : Result Packet Refusal) (left : List ℕ) → ReadsInto words old a left → ReservedExactly (refusal_in a) (UpToSum words) (read_bytes words)
read-into-reserved words old a left R = told _ (read_bytes words) _ _ (into-tells words old a left R) (λ place. into-used words place (length old))

-- at any follower
pub follow-reserved : (f : Follower) (words : List ℕ) (a : Followed) → Follows f words a → ReservedExactly (refusal_in a.heard) (UpToSum words) (read_bytes words)
follow-reserved f words a F = told _ (read_bytes words) _ _ (follow-tells f words a F) (read-used words)

-- ---- what is accepted loses nothing there: the record has in the area what was given

pub written_keeps : (on : Bool) (ci : ℕ) (bytes old left : List ℕ) → Writes on ci bytes old (Ok tt) left → reserved_area (record_of bytes) ≡ reserved_area bytes
written_keeps on ci bytes old left W =
    let D = done-wrote on ci bytes old (sym (writes-is on ci bytes old (Ok tt) left W)) in
    record-keeps bytes D.long D.rules

pub read_keeps : (words old : List ℕ) (p : Packet) (left : List ℕ) → ReadsInto words old (Ok p) left → reserved_area left ≡ reserved_area (read_bytes words)
read_keeps words old p left R = ap reserved_area (record-left words old p left R) ∙ read-reserved words (accepted words old p left R).0
