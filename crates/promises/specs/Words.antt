-- What is promised of a word: the four answers of the word check, and what refusal 7 says.
-- Assumes nothing.
use Rattle.std.specs.Prelude.{◌≡◌, false, List, ◌↔◌, ℕ, ◌-◌, Ok, Some, None}
use Rattle.std.proofs.Math.Option.{Option, some}
use Rattle.basics.specs.Each.{all}
use Rattle.refusal.specs.Number.{refusal_at}
use Rattle.refusal.specs.declared.Wrong.{Wrong}
use Rattle.refusal.specs.declared.Wrong.TheVariants.{B8, B9, Both}
use Rattle.refusal.specs.declared.Reason.TheVariants.{Parity}
use Rattle.refusal.specs.declared.Refusal.{Refusal}
use Rattle.anc.specs.Word.{bit, parity_of, is_sound}
use Rattle.soundness.specs.Check.{Soundness, FirstUnsound}
use Rattle.reading.specs.Reading.{protected_of, data_words, OffPacket}

-- ---- one word

-- b8 is what b0 to b7 call for, their even parity; and b9, the inverse of that parity
abbrev pub RightB8 : ℕ → Type 0
RightB8 w = bit 8 w ≡ parity_of w

abbrev pub RightB9 : ℕ → Type 0
RightB9 w = bit 9 w ≡ 1 - parity_of w

-- the answer for a word of ten bits, by cases
pub record FourAnswers (w : ℕ) (answer : Soundness) : Type 0 where
  pub sound : (answer ≡ Ok None) ↔ (RightB8 w × RightB9 w)
  pub b8 : (answer ≡ Ok (Some B8)) ↔ ((RightB8 w → ⊥) × RightB9 w)
  pub b9 : (answer ≡ Ok (Some B9)) ↔ (RightB8 w × (RightB9 w → ⊥))
  pub both : (answer ≡ Ok (Some Both)) ↔ ((RightB8 w → ⊥) × (RightB9 w → ⊥))

-- ---- refusal 7

-- 7, PARITY, in a packet: with a place and with what is wrong exactly where the first data word that is not sound has that number and that
-- is wrong with it, and given wherever a data word is not sound
pub record ParityExactly (refusal : Option Refusal) (words : List ℕ) : Type 0 where
  pub at : (wrong : Wrong) (place : ℕ)
      → (refusal ≡ some (refusal_at (Parity wrong) place)) ↔ (OffPacket words × FirstUnsound 1 (data_words (protected_of words)) wrong place)
  pub given : OffPacket words → all is_sound (data_words (protected_of words)) ≡ false → (wrong : Wrong) × (place : ℕ) × (refusal ≡ some (refusal_at (Parity wrong) place))
