-- Reading a packet: its parts, what it is refused for in the order of the checks, what is read, and its words once it is written again.
-- Assumes nothing.
use Rattle.std.specs.Prelude.{◌≡◌, Bool, false, cond, ◌&&◌, List, ◌++◌, ℕ, ◌/◌, ◌%◌, eqb, length, get_or, take, drop}
use Rattle.std.proofs.Math.Option.{Option}
use Rattle.anc.specs.Word.{is_sound, checksum_of}
use Rattle.soundness.specs.Check.{unsound_from}
use Rattle.basics.specs.Each.{all}
use Rattle.refusal.specs.Chain.{require, next, passed}
use Rattle.refusal.specs.Number.{refusal_plain}
use Rattle.refusal.specs.declared.Reason.TheVariants.{Length, Wide, Flag, Kind, Count, Header, Fill, BeyondRepair, Checksum, Room}
use Rattle.refusal.specs.declared.Refusal.{Refusal}
use Rattle.record.specs.Record.{content_refusal, record_of}
use Rattle.repair.specs.Protected.{repairable, rewritten, fixed_of}
use Rattle.anc.specs.Words.{has_flag, low_bytes, narrow}

-- word n of a packet, counted from 0
abbrev pub word : List ℕ → ℕ → ℕ
word words n = get_or words n 0

-- ---- the parts

-- the header stands behind flag, DID, SDID and count
unfoldable pub correction_of : List ℕ → Bool
correction_of words = eqb (word words 6 / 128 % 2) 1

unfoldable pub index_of : List ℕ → ℕ
index_of words = word words 6 % 16

-- the last 254 user words as they were delivered
unfoldable pub protected_of : List ℕ → List ℕ
protected_of words = take 254 (drop 7 words)

-- of these, the words of data bytes 1 to 248
abbrev pub data_words : List ℕ → List ℕ
data_words guarded = take 248 guarded

-- the protected words as they are read: rewritten where correction is on
unfoldable pub read_words : List ℕ → List ℕ
read_words words = cond (correction_of words) (rewritten (protected_of words)) (protected_of words)

-- the 248 data bytes as they are read
unfoldable pub read_bytes : List ℕ → List ℕ
read_bytes words = take 248 (low_bytes (read_words words))

-- from DID to the last user word, as they are read
unfoldable pub summed_of : List ℕ → List ℕ
summed_of words = take 4 (drop 3 words) ++ read_words words

-- the number of protected words whose ten bits changed; 0 with correction off
unfoldable pub read_fixed : List ℕ → ℕ
read_fixed words = cond (correction_of words) (fixed_of (protected_of words)) 0

-- ---- the checks

-- is the word a header: sound, with b6 to b4 zero?
abbrev pub is_header : ℕ → Bool
is_header w = is_sound w && eqb (w / 16 % 8) 0

-- 1 to 6: the words up to the header
unfoldable pub head_refusal : List ℕ → Option Refusal
head_refusal words =
    require (eqb (length words) 262) (refusal_plain Length)
    (require (narrow words) (refusal_plain Wide)
    (require (has_flag words) (refusal_plain Flag)
    (require (eqb (word words 3) 0x25F && eqb (word words 4) 0x1FE) (refusal_plain Kind)
    (require (eqb (word words 5) 0x2FF) (refusal_plain Count)
    (require (is_header (word words 6)) (refusal_plain Header) passed)))))

-- is the word 0x200?
abbrev pub is_fill : ℕ → Bool
is_fill w = eqb w 0x200

-- the protected words, by the correction bit: 9; or 7 at the first data word that is not sound, and then 8
unfoldable pub protected_refusal : Bool → List ℕ → Option Refusal
protected_refusal correction guarded =
    cond correction (require (repairable guarded) (refusal_plain BeyondRepair) passed)
    (next (unsound_from 1 (data_words guarded)) (require (all is_fill (drop 248 guarded)) (refusal_plain Fill) passed))

-- 7 to 10, 15, 11 to 14: the protected words, the checksum and the record
unfoldable pub body_refusal : List ℕ → Option Refusal
body_refusal words =
    next (protected_refusal (correction_of words) (protected_of words))
    (require (eqb (checksum_of (summed_of words)) (word words 261)) (refusal_plain Checksum) (content_refusal (read_bytes words)))

-- 1 to 10, 15, 11 to 14
unfoldable pub read_refusal : List ℕ → Option Refusal
read_refusal words = next (head_refusal words) (body_refusal words)

-- the same, then 23: where room for the record is lent
unfoldable pub read_into_refusal : List ℕ → ℕ → Option Refusal
read_into_refusal words room = next (read_refusal words) (require (eqb room 248) (refusal_plain Room) passed)

-- correction is off, and nothing up to the header is refused
abbrev pub OffPacket : List ℕ → Type 0
OffPacket words = (head_refusal words ≡ passed) × (correction_of words ≡ false)

-- nothing up to the checksum is refused: 1 to 10
pub record UpToSum (words : List ℕ) : Type 0 where
  pub head : head_refusal words ≡ passed
  pub guarded : protected_refusal (correction_of words) (protected_of words) ≡ passed
  pub sum : checksum_of (summed_of words) ≡ word words 261

-- the record that is read
unfoldable pub read_record : List ℕ → List ℕ
read_record words = record_of (read_bytes words)

-- ---- a packet written again

-- its places that aren't read were zero: the bytes that are read are their record. The reserved area is none of these places: where a packet is
-- not refused it was zero
abbrev pub Clean : List ℕ → Type 0
Clean words = read_record words ≡ read_bytes words

-- its rewritten words: the protected ones as they are read, all else as it was delivered
unfoldable pub rewritten_packet : List ℕ → List ℕ
rewritten_packet words = take 7 words ++ read_words words ++ drop 261 words
