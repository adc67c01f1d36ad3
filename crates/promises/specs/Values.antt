-- Values on both sides of a line, as one table: what the definitions give at the cases that are marked to be proved.
-- Assumes nothing.
use Rattle.std.specs.Prelude.{◌≡◌, Bool, true, false, cond, List, [], ◌∷◌, ◌++◌, ℕ, ◌+◌, ◌-◌, ◌^◌, eqb, get_or, replicate, Ok, Err, Some}
use Rattle.refusal.specs.Number.{refusal_at}
use Rattle.refusal.specs.declared.Wrong.TheVariants.{B8, B9, Both}
use Rattle.refusal.specs.declared.Reason.TheVariants.{Station}
use Rattle.anc.specs.Word.{bit, word_of, is_sound}
use Rattle.soundness.specs.Check.{soundness_of}
use Rattle.rs.specs.Codeword.{parity_of}
use Rattle.rules.specs.Rules.{sound_byte, picture_rule, time_rule}
use Rattle.anc.specs.Words.{sound_words}
use Rattle.writing.specs.Layout.{packet_words}
use Rattle.reading.specs.Reading.{read_record}
use Rattle.reading.specs.Answer.{reading_of}
use Rattle.desk.specs.Desk.{opening}
use Rattle.sequence.specs.declared.Kind.TheVariants.{Repeat}
use Rattle.reading.specs.declared.Packet.{Packet}
use Rattle.follower.specs.declared.Arrival.{Arrival}
use Rattle.follower.specs.declared.Held.{Held}
use Rattle.follower.specs.declared.Follower.{Follower}
use Rattle.follower.specs.Follower.{arrival_of}

-- the checksum word of a packet
abbrev pub sum_word : List ℕ → ℕ
sum_word words = get_or words 261 0

-- a picture mode by its W0
abbrev pub picture : ℕ → Bool
picture w0 = picture_rule (w0 ∷ 0 ∷ 0 ∷ 0 ∷ [])

-- a second by its byte, in a time of which nothing else is sent
abbrev pub second : ℕ → Bool
second b = time_rule (0xFF ∷ 0xFF ∷ 0xFF ∷ 0xFF ∷ 0xFF ∷ 0xFF ∷ b ∷ 0xFF ∷ 0xFF ∷ [])

-- what a packet of this index and record brings to a follower that has started and holds these two
abbrev pub standing : Held → Follower
standing h = record { started = true; held = h; back = false; accepted = 0; repeated = 0; conflicting = 0; missed = 0; refused = 0 }

abbrev pub packet_at : ℕ → Packet
packet_at ci = record { correction = true; ci = ci; fixed = 0 }

abbrev pub arrival_at : Held → ℕ → List ℕ → Arrival
arrival_at h ci arrived = arrival_of (standing h) (packet_at ci) arrived

-- a word with bit i inverted
abbrev pub inverted : ℕ → ℕ → ℕ
inverted i w = cond (eqb (bit i w) 1) (w - 2 ^ i) (w + 2 ^ i)

pub record Values : Type 0 where
  pub byte_85 : word_of 0x85 ≡ 0x185
  pub byte_0f : word_of 0x0F ≡ 0x20F
  pub parity_of_one : sound_words (parity_of (replicate 247 0 ++ 0x01 ∷ [])) ≡ 0x23F ∷ 0x101 ∷ 0x1DA ∷ 0x120 ∷ 0x1E3 ∷ 0x126 ∷ []
  pub zero_on : sum_word (packet_words true 0 (replicate 248 0)) ≡ 0x2DC
  -- with correction off, which no desk sends, two cases of the layout and, behind each, of reading: for a reader zero data lack a station code
  pub zero_off : sum_word (packet_words false 0 (replicate 248 0)) ≡ 0x15C
  pub zero_off_read : reading_of (packet_words false 0 (replicate 248 0)) ≡ Err (refusal_at Station 1)
  pub fresh_off : sum_word (packet_words false 0 opening) ≡ 0x149
  pub fresh_off_read : reading_of (packet_words false 0 opening) ≡ Ok (record { correction = false; ci = 0; fixed = 0 })
  pub fresh_off_record : read_record (packet_words false 0 opening) ≡ opening
  pub sound_92 : sound_byte 0x92 ≡ true
  pub sound_89 : sound_byte 0x89 ≡ false
  pub sound_32 : sound_byte 0x32 ≡ false
  pub sound_1a : sound_byte 0x1A ≡ true
  pub sound_1b : sound_byte 0x1B ≡ false
  pub picture_85 : picture 0x85 ≡ true
  pub picture_05 : picture 0x05 ≡ false
  pub picture_80 : picture 0x80 ≡ false
  pub picture_86 : picture 0x86 ≡ false
  pub second_59 : second 0x59 ≡ true
  pub second_5a : second 0x5A ≡ false
  pub second_60 : second 0x60 ≡ false
  pub index_15_then_0 : (h : Held) (arrived : List ℕ) → h.ci ≡ 15 → (arrival_at h 0 arrived).missed ≡ 0
  -- 3 then 2 misses 14 where the records don't match, and where the two at the follower were not successive; where they match and were, it is a REPEAT
  pub index_3_then_2 : (h : Held) (arrived : List ℕ) → h.ci ≡ 3 → (h.before ≡ arrived → ⊥) → (arrival_at h 2 arrived).missed ≡ 14
  pub index_3_then_2_lost : (h : Held) (arrived : List ℕ) → h.ci ≡ 3 → h.successive ≡ false → (arrival_at h 2 arrived).missed ≡ 14
  pub index_3_then_2_again : (h : Held) → h.ci ≡ 3 → h.successive ≡ true
      → arrival_at h 2 h.before ≡ record { kind = Repeat; ci = 2; fixed = 0; missed = 0; onsets = 0 }
  pub b8_inverted : (w : ℕ) → is_sound w ≡ true → soundness_of (inverted 8 w) ≡ Ok (Some B8)
  pub b9_inverted : (w : ℕ) → is_sound w ≡ true → soundness_of (inverted 9 w) ≡ Ok (Some B9)
  pub both_inverted : (w : ℕ) → is_sound w ≡ true → soundness_of (inverted 8 (inverted 9 w)) ≡ Ok (Some Both)
