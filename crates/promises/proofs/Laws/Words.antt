-- Words, as the calls check them: the four answers, that a word is sound exactly when the answer is, and where the first word of a run or of a
-- packet stands that is not.
-- Assumes nothing.
use mathlib.Core.Path.{◌≡◌, refl, sym, ap, ap₂, ◌∙◌}
use mathlib.Core.Bool.{Bool, true, false}
use mathlib.Core.List.{List}
use mathlib.Core.Logic.Iff
use mathlib.Core.Logic.{◌↔◌}
use mathlib.Core.Option.{Option, some}
use Prim.Native.Nat.{ℕ, ◌-◌, ◌≤◌, ◌<◌}
use borrow.Author.Tests.{eq-eqb, ne_eqb, eqb-true, eqb-false}
use lib.Dec.{eqb}
use lib.ListN.{length}
use Rattle.refusal.specs.Checked.{Checked, refusal_in}
use Rattle.refusal.specs.Number.{refusal_at, refusal_plain}
use Rattle.refusal.specs.declared.Wrong.{Wrong}
use Rattle.refusal.specs.declared.Wrong.TheVariants.{B8, B9, Both}
use Rattle.refusal.specs.declared.Reason.TheVariants.{Parity, Wide}
use Rattle.refusal.specs.declared.Refusal.{Refusal}
use Rattle.refusal.proofs.Laws.Chain.{refusal-in}
use Rattle.anc.specs.Word.{bit, parity_of, is_sound}
use Rattle.std.specs.Prelude.{Result, Ok, Err, Some, None}
use Rattle.soundness.specs.Check.{b8_right, b9_right, wrong_by, Soundness, FirstUnsound}
use Rattle.soundness.proofs.Laws.Check.{wide-refused, narrow-answer, sound-checked, checked-sound}
use Rattle.soundness.proofs.Laws.Run.{words-few, first-exactly}
use Rattle.reading.specs.declared.Packet.{Packet}
use Rattle.reading.specs.Reading.{read_refusal}
use Rattle.reading.proofs.Laws.Parity.{read-parity, read-unsound, into-parity}
use Rattle.follower.specs.declared.Follower.{Follower}
use Rattle.follower.specs.declared.Followed.{Followed}
use Rattle.promises.specs.Calls.{Follows}
use Rattle.promises.specs.PacketCalls.{ChecksWord, ChecksWords, ReadsPacket, ReadsInto}
use Rattle.promises.specs.Words.{FourAnswers, ParityExactly}
use Rattle.promises.proofs.Laws.PacketCalls.{checks-word-is, checks-words-is}
use Rattle.promises.proofs.Laws.Packets.{read-tells, into-tells, follow-tells}

-- ---- one word

-- the answer for a word of ten bits
abbrev answer_by : Bool → Bool → Soundness
answer_by b8 b9 = Ok (wrong_by b8 b9)

-- an answer tells whether b8 is right, and whether b9 is
tells-b8 : Soundness → Bool
tells-b8 (Ok None) = true
tells-b8 (Ok (Some B8)) = false
tells-b8 (Ok (Some B9)) = true
tells-b8 (Ok (Some Both)) = false
tells-b8 (Err why) = false

tells-b9 : Soundness → Bool
tells-b9 (Ok None) = true
tells-b9 (Ok (Some B8)) = true
tells-b9 (Ok (Some B9)) = false
tells-b9 (Ok (Some Both)) = false
tells-b9 (Err why) = false

told-bits : (t8 t9 : Bool) → (tells-b8 (answer_by t8 t9) ≡ t8) × (tells-b9 (answer_by t8 t9) ≡ t9)
unfolding tells-b8 tells-b9
told-bits true true = (refl, refl)
told-bits true false = (refl, refl)
told-bits false true = (refl, refl)
told-bits false false = (refl, refl)

same_answer : (t8 t9 u8 u9 : Bool) → (answer_by t8 t9 ≡ answer_by u8 u9) ↔ ((t8 ≡ u8) × (t9 ≡ u9))
same_answer t8 t9 u8 u9 = (
  λ e. (sym (told-bits t8 t9).0 ∙ ap tells-b8 e ∙ (told-bits u8 u9).0, sym (told-bits t8 t9).1 ∙ ap tells-b9 e ∙ (told-bits u8 u9).1),
  λ (p, q). ap₂ answer_by p q,
)

-- a test of two numbers passes exactly when they are equal
is : (a b : ℕ) → (eqb a b ≡ true) ↔ (a ≡ b)
is a b = (eqb-true a b, eq-eqb a b)

is-not : (a b : ℕ) → (eqb a b ≡ false) ↔ (a ≡ b → ⊥)
is-not a b = (eqb-false a b, ne_eqb a b)

module _ (w : ℕ) where
  four : FourAnswers w (answer_by (b8_right w) (b9_right w))
  unfolding b8_right b9_right
  four = record {
    sound = Iff.trans (same_answer (b8_right w) (b9_right w) true true) (Iff.and (is (bit 8 w) (parity_of w)) (is (bit 9 w) (1 - parity_of w)));
    b8 = Iff.trans (same_answer (b8_right w) (b9_right w) false true) (Iff.and (is-not (bit 8 w) (parity_of w)) (is (bit 9 w) (1 - parity_of w)));
    b9 = Iff.trans (same_answer (b8_right w) (b9_right w) true false) (Iff.and (is (bit 8 w) (parity_of w)) (is-not (bit 9 w) (1 - parity_of w)));
    both = Iff.trans (same_answer (b8_right w) (b9_right w) false false) (Iff.and (is-not (bit 8 w) (parity_of w)) (is-not (bit 9 w) (1 - parity_of w)));
  }

  module _ (a : Soundness) (C : ChecksWord w a) where
    pub check-word-four : w ≤ 1023 → FourAnswers w a
    check-word-four h = rw (checks-word-is w a C, narrow-answer w h) four

    pub check-word-wide : 1023 < w → a ≡ Err (refusal_plain Wide)
    check-word-wide h = checks-word-is w a C ∙ wide-refused w h

    -- sound exactly when the answer is sound
    pub check-word-sound : (is_sound w ≡ true) ↔ (a ≡ Ok None)
    check-word-sound = (λ s. checks-word-is w a C ∙ sound-checked w s, λ e. checked-sound w (sym (checks-word-is w a C) ∙ e))

-- ---- a run of words

-- of up to 255: 7 is given exactly at the first that is not sound, and says what is wrong with it
pub check-words-first : (words : List ℕ) → length words ≤ 255 → (a : Checked) → ChecksWords words a → (wrong : Wrong) (place : ℕ)
    → (refusal_in a ≡ some (refusal_at (Parity wrong) place)) ↔ FirstUnsound 1 words wrong place
check-words-first words h a C wrong place = rw (checks-words-is words a C, refusal-in, words-few words h) (first-exactly 1 words wrong place)

-- ---- a packet

-- what the definitions give, by what a call tells
told : (words : List ℕ) (o : Option Refusal) → read_refusal words ≡ o → ParityExactly o words
told words o e = rw (← e) (record { at = read-parity words; given = read-unsound words })

pub read-packet-parity : (words : List ℕ) (a : Result Packet Refusal) → ReadsPacket words a → ParityExactly (refusal_in a) words
read-packet-parity words a R = told words _ (read-tells words a R)

-- into any room
pub read-into-parity : (words old : List ℕ) (a : Result Packet Refusal) (left : List ℕ) → ReadsInto words old a left → ParityExactly (refusal_in a) words
read-into-parity words old a left R =
    rw (← into-tells words old a left R)
    (record {
      at = λ wrong place. Iff.trans (into-parity words (length old) wrong place) (read-parity words wrong place);
      given = λ off u. let (wrong, place, e) = read-unsound words off u in (wrong, place, (into-parity words (length old) wrong place).1 e);
    })

-- at any follower
pub follow-parity : (f : Follower) (words : List ℕ) (a : Followed) → Follows f words a → ParityExactly (refusal_in a.heard) words
follow-parity f words a F = told words _ (follow-tells f words a F)
