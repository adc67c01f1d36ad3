-- What reading a packet answers and leaves, and what each of its answers says.
-- Assumes nothing.
use Rattle.std.specs.Prelude.{Result, Ok, Err, Bool, cond, List, ◌++◌, ℕ, eqb, length, take, drop}
use Rattle.std.proofs.Math.Option.{Option, none, some}
use Rattle.anc.specs.Word.{checksum_of}
use Rattle.refusal.specs.Chain.{require}
use Rattle.refusal.specs.Checked.{answer_of}
use Rattle.refusal.specs.Number.{refusal_plain}
use Rattle.refusal.specs.declared.Reason.TheVariants.{Checksum}
use Rattle.refusal.specs.declared.Refusal.{Refusal}
use Rattle.rs.specs.Decode.{changes}
use Rattle.record.specs.Record.{record_refusal}
use Rattle.reading.specs.declared.Packet.{Packet}
use Rattle.repair.specs.Protected.{rewritten}
use Rattle.anc.specs.Words.{low_bytes, sound_words}
use Rattle.refusal.specs.Chain.{left_by}
use Rattle.reading.specs.Reading.{word, correction_of, index_of, read_fixed, protected_of, read_refusal, read_into_refusal, read_record}

-- ---- what an answer says, for every case of it; its refusal is `refusal_in`

-- the packet, which has its correction bit, its index and how many words were fixed
abbrev pub packet_in : Result Packet Refusal → Option Packet
packet_in (Ok p) = some p
packet_in (Err why) = none

-- ---- the answer

unfoldable pub packet_of : List ℕ → Packet
packet_of words = record { correction = correction_of words; ci = index_of words; fixed = read_fixed words }

-- the refusal where there is one, else the packet
unfoldable pub reading_of : List ℕ → Result Packet Refusal
reading_of words = answer_of (read_refusal words) (packet_of words)

-- into room for so many bytes
unfoldable pub reading_into_of : List ℕ → ℕ → Result Packet Refusal
reading_into_of words room = answer_of (read_into_refusal words room) (packet_of words)

-- what is left in the lent buffer: the record, or what was there
unfoldable pub read_leaves : List ℕ → List ℕ → List ℕ
read_leaves words old = left_by (read_into_refusal words (length old)) (read_record words) old

-- ---- the same by the bytes that are read, for private contracts alone

-- the bytes of protected words, as they are read
unfoldable pub guard_bytes : Bool → List ℕ → List ℕ
guard_bytes on guarded = low_bytes (cond on (rewritten guarded) guarded)

-- what the checksum is taken over, by the bytes that are read
unfoldable pub summed_by : Bool → List ℕ → List ℕ → List ℕ
summed_by on words bytes = take 4 (drop 3 words) ++ cond on (sound_words bytes) (protected_of words)

-- the packet, by the bytes that are read
unfoldable pub packet_by : List ℕ → List ℕ → Packet
packet_by words bytes =
    record { correction = correction_of words; ci = index_of words; fixed = cond (correction_of words) (changes (protected_of words) (sound_words bytes)) 0 }

-- 10, 15, 11 to 14, by the bytes that are read
unfoldable pub tail_refusal : List ℕ → Bool → List ℕ → Option Refusal
tail_refusal words on bytes =
    require (eqb (checksum_of (summed_by on words bytes)) (word words 261)) (refusal_plain Checksum) (record_refusal (take 248 bytes))
