-- What the contracts say of the calls of word, codeword, record and packet, as equations.
-- Assumes nothing.
use mathlib.Core.Path.{◌≡◌, sym, ap, ◌∙◌}
use mathlib.Core.Bool.{Bool}
use mathlib.Core.List.{List}
use Prim.Native.Nat.{ℕ}
use lib.ListN.{length}
use Rattle.std.specs.Prelude.{Result}
use Rattle.refusal.specs.Checked.{Checked, checked_of}
use Rattle.refusal.specs.declared.Refusal.{Refusal}
use Rattle.soundness.specs.Check.{Soundness, soundness_of, words_refusal}
use Rattle.rs.specs.Check.{verdict_of}
use Rattle.record.specs.Record.{record_refusal}
use Rattle.view.specs.declared.RecordView.{RecordView}
use Rattle.view.specs.Read.{record_read_of}
use Rattle.writing.specs.Written.{written_of, write_leaves}
use Rattle.reading.specs.declared.Packet.{Packet}
use Rattle.reading.specs.Answer.{reading_of, reading_into_of, read_leaves}
use Rattle.repair.specs.Repair.{repaired_of, repair_leaves}
use Rattle.promises.specs.PacketCalls.{ChecksWord, ChecksWords, ChecksCodeword, ChecksRecord, ReadsRecord, Writes, ReadsPacket, ReadsInto, Repairs}

pub checks-word-is : (word : ℕ) (a : Soundness) → ChecksWord word a → a ≡ soundness_of word
checks-word-is word a C = C.allowed ∙ ap soundness_of C.given

pub checks-words-is : (words : List ℕ) (a : Checked) → ChecksWords words a → a ≡ checked_of (words_refusal words)
checks-words-is words a C = C.allowed ∙ ap (λ (l : List ℕ). checked_of (words_refusal l)) C.lent

pub checks-codeword-is : (block : List ℕ) (a : Result Bool Refusal) → ChecksCodeword block a → a ≡ verdict_of block
checks-codeword-is block a C = C.allowed ∙ ap verdict_of C.lent

pub checks-record-is : (bytes : List ℕ) (a : Checked) → ChecksRecord bytes a → a ≡ checked_of (record_refusal bytes)
checks-record-is bytes a C = C.allowed ∙ ap (λ (l : List ℕ). checked_of (record_refusal l)) C.lent

pub reads-record-is : (bytes : List ℕ) (a : Result RecordView Refusal) → ReadsRecord bytes a → a ≡ record_read_of bytes
reads-record-is bytes a R = R.allowed ∙ ap record_read_of R.lent

pub writes-is : (on : Bool) (ci : ℕ) (bytes old : List ℕ) (a : Checked) (left : List ℕ) → Writes on ci bytes old a left → a ≡ written_of ci bytes (length old)
writes-is on ci bytes old a left W = W.allowed.0 ∙ (λ i. written_of (W.index i) (W.lent i) (length (W.room i)))

pub writes-leaves : (on : Bool) (ci : ℕ) (bytes old : List ℕ) (a : Checked) (left : List ℕ) → Writes on ci bytes old a left → left ≡ write_leaves on ci bytes old
writes-leaves on ci bytes old a left W = sym W.leaves ∙ W.allowed.1 ∙ (λ i. write_leaves (W.correction i) (W.index i) (W.lent i) (W.room i))

pub reads-packet-is : (ws : List ℕ) (a : Result Packet Refusal) → ReadsPacket ws a → a ≡ reading_of ws
reads-packet-is ws a R = R.allowed ∙ ap reading_of R.lent

pub reads-into-is : (ws old : List ℕ) (a : Result Packet Refusal) (left : List ℕ) → ReadsInto ws old a left → a ≡ reading_into_of ws (length old)
reads-into-is ws old a left R = R.allowed.0 ∙ (λ i. reading_into_of (R.lent i) (length (R.room i)))

pub reads-into-leaves : (ws old : List ℕ) (a : Result Packet Refusal) (left : List ℕ) → ReadsInto ws old a left → left ≡ read_leaves ws old
reads-into-leaves ws old a left R = sym R.leaves ∙ R.allowed.1 ∙ (λ i. read_leaves (R.lent i) (R.room i))

pub repairs-is : (ws old : List ℕ) (a : Result ℕ Refusal) (left : List ℕ) → Repairs ws old a left → a ≡ repaired_of ws (length old)
repairs-is ws old a left R = R.allowed.0 ∙ (λ i. repaired_of (R.lent i) (length (R.room i)))

pub repairs-leaves : (ws old : List ℕ) (a : Result ℕ Refusal) (left : List ℕ) → Repairs ws old a left → left ≡ repair_leaves ws old
repairs-leaves ws old a left R = sym R.leaves ∙ R.allowed.1 ∙ (λ i. repair_leaves (R.lent i) (R.room i))
