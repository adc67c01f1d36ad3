-- The table of values holds: each row is computed from the definitions, or, of every sound word, worked out of its bits.
-- Assumes nothing.
use mathlib.Core.Path.{◌≡◌, refl, sym, ap, ap₂, ◌∙◌}
use mathlib.Core.Bool.{Bool, true, false}
use mathlib.Core.List.{List}
use Prim.Native.Nat.{ℕ, suc, ◌+◌, ◌-◌, ◌*◌, ◌/◌, ◌%◌, ◌≤◌, ◌<◌}
use native.Mathlib.Nat.{mod-lt}
use native.Mathlib.Omega.{arith}
use borrow.Author.Tests.{eq-eqb, ne_eqb}
use lib.Dec.{eqb}
use mathlib.Core.Logic.{⊎_elim}
use Rattle.basics.proofs.Laws.Test.{lt-or-le, never}
use Rattle.gf256.specs.Field.{◌⊕◌, ◌⊗◌, by_bits, double}
use Rattle.refusal.specs.declared.Wrong.TheVariants.{B8, B9, Both}
use Rattle.anc.specs.Word.{is_sound, word_of, with_b9, bit, ones, parity_of as even_parity, total, checksum_of}
use Rattle.std.specs.Prelude.{Ok, Some}
use Rattle.soundness.specs.Check.{b8_right, b9_right, wrong_by, soundness_of, unsound_from}
use Rattle.anc.proofs.Laws.Bits.{bit-lt, parity-low}
use Rattle.anc.proofs.Laws.Word.{RightBits, sound-right, word-parts}
use Rattle.soundness.proofs.Laws.Check.{narrow-answer}
use Rattle.rs.specs.Polynomial.{◌⊞◌, scale}
use Rattle.rs.specs.Codeword.{parity_of, remainder, next, divisor_bytes}
use Rattle.rules.specs.Rules.{station_rule, station_byte, sound_byte, sound_rule, one_of, picture_rule, picture_clean, low_half, time_rule, time_byte, decimal}
use Rattle.anc.specs.Words.{sound_words, flag, narrow, has_flag, low_bytes}
use Rattle.writing.specs.Layout.{packet_words, summed_words, kind, header_word, protected_words}
use Rattle.basics.specs.Each.{all, same}
use Rattle.refusal.specs.Run.{first_from}
use Rattle.record.specs.Reserved.{reserved_area, reserved_refusal}
use Rattle.record.specs.Record.{broken, content_refusal, laid_out, record_of}
use Rattle.reading.specs.Reading.{correction_of, index_of, protected_of, read_words, read_bytes, summed_of, read_fixed, head_refusal, protected_refusal, body_refusal, read_refusal, read_record}
use Rattle.reading.specs.Answer.{packet_of, reading_of}
use Rattle.items.specs.Items.{items, part}
use Rattle.items.specs.Item.{row_of, put, put_in, put_item}
use Rattle.desk.specs.Desk.{opening}
use Rattle.sequence.specs.declared.Kind.TheVariants.{Repeat}
use Rattle.sequence.specs.Sequence.{step_of, missed_of}
use Rattle.sequence.specs.Onsets.{onsets_after}
use Rattle.follower.specs.declared.Held.{Held}
use Rattle.follower.specs.Follower.{step_to, arrived_as, arrival_of}
use Rattle.follower.proofs.Laws.Again.{Again, so-again, other-kind}
use Rattle.promises.specs.Values.{standing, packet_at, arrival_at, inverted, Values}

-- ---- a word with a bit inverted

-- of a word of ten bits, b8 or b9 and nothing else is turned round
record Turned (w v b8 b9 : ℕ) : Type 0 where
  ten : v ≤ 1023
  low : v % 256 ≡ w % 256
  is-b8 : bit 8 v ≡ b8
  is-b9 : bit 9 v ≡ b9

-- it is the number of these bits over the same low byte
from_parts : (w v b8 b9 : ℕ) → b8 < 2 → b9 < 2 → v ≡ w % 256 + 256 * b8 + 512 * b9 → Turned w v b8 b9
unfolding bit
from_parts w v b8 b9 h k e =
    let low : w % 256 < 256 = mod-lt w (omega arith) in
    let high : v / 256 ≡ b8 + 2 * b9 = omega arith in
    let top : v / 512 ≡ b9 = omega arith in
    record { ten = omega arith; low = omega arith; is-b8 = omega arith; is-b9 = omega arith }

-- a bit is 1 or 0
one_or_zero : {A : Type 0} (b : ℕ) → b < 2 → (b ≡ 1 → A) → (b ≡ 0 → A) → A
one_or_zero b h f g = ⊎_elim (λ (l : b < 1). g (omega arith)) (λ (l : 1 ≤ b). f (omega arith)) (lt-or-le b 1)

turns-b8 : (w : ℕ) → w ≤ 1023 → Turned w (inverted 8 w) (1 - bit 8 w) (bit 9 w)
turns-b8 w h =
    from_parts w (inverted 8 w) (1 - bit 8 w) (bit 9 w) (omega arith) (bit-lt 9 w)
    (one_or_zero (bit 8 w) (bit-lt 8 w) (λ e. rw e (omega (arith, word-parts w h, e))) (λ e. rw e (omega (arith, word-parts w h, e))))

turns-b9 : (w : ℕ) → w ≤ 1023 → Turned w (inverted 9 w) (bit 8 w) (1 - bit 9 w)
turns-b9 w h =
    from_parts w (inverted 9 w) (bit 8 w) (1 - bit 9 w) (bit-lt 8 w) (omega arith)
    (one_or_zero (bit 9 w) (bit-lt 9 w) (λ e. rw e (omega (arith, word-parts w h, e))) (λ e. rw e (omega (arith, word-parts w h, e))))

-- what the word check answers of a word whose low byte is that of a sound word
module _ (w v b8 b9 : ℕ) (right : RightBits w) (t : Turned w v b8 b9) where
  same-parity : even_parity v ≡ even_parity w
  same-parity = sym (parity-low v) ∙ ap even_parity t.low ∙ parity-low w

  answers : (x y : Bool) → eqb b8 (bit 8 w) ≡ x → eqb b9 (bit 9 w) ≡ y → soundness_of v ≡ Ok (wrong_by x y)
  unfolding b8_right b9_right
  answers x y p q =
      narrow-answer v t.ten
      ∙ ap₂ (λ (p q : Bool). Ok (wrong_by p q))
      (ap₂ eqb t.is-b8 (same-parity ∙ sym right.b8) ∙ p)
      (ap₂ eqb t.is-b9 (ap (λ (n : ℕ). 1 - n) same-parity ∙ sym right.b9) ∙ q)

-- a bit is not its inverse
turned_bit : (b : ℕ) → eqb (1 - b) b ≡ false
turned_bit b = ne_eqb (1 - b) b (λ e. omega arith)

same_bit : (b : ℕ) → eqb b b ≡ true
same_bit b = eq-eqb b b refl

module _ (w : ℕ) (s : is_sound w ≡ true) where
  right : RightBits w
  right = sound-right w s

  b8-wrong : soundness_of (inverted 8 w) ≡ Ok (Some B8)
  b8-wrong = answers w (inverted 8 w) _ _ right (turns-b8 w right.ten) false true (turned_bit (bit 8 w)) (same_bit (bit 9 w))

  b9-wrong : soundness_of (inverted 9 w) ≡ Ok (Some B9)
  b9-wrong = answers w (inverted 9 w) _ _ right (turns-b9 w right.ten) true false (same_bit (bit 8 w)) (turned_bit (bit 9 w))

  -- one after the other
  twice : Turned w (inverted 8 (inverted 9 w)) (1 - bit 8 w) (1 - bit 9 w)
  twice =
      let t = turns-b9 w right.ten in
      let u = turns-b8 (inverted 9 w) t.ten in
      record { ten = u.ten; low = u.low ∙ t.low; is-b8 = u.is-b8 ∙ ap (λ (b : ℕ). 1 - b) t.is-b8; is-b9 = u.is-b9 ∙ t.is-b9 }

  both-wrong : soundness_of (inverted 8 (inverted 9 w)) ≡ Ok (Some Both)
  both-wrong = answers w (inverted 8 (inverted 9 w)) _ _ right twice false false (turned_bit (bit 8 w)) (turned_bit (bit 9 w))

-- ---- from one index to another

module _ (h : Held) (last ci : ℕ) (e : h.ci ≡ last) where
  step_is : step_to (standing h) (packet_at ci) ≡ step_of last ci
  unfolding step_to
  step_is = ap (λ (n : ℕ). step_of n ci) e

  -- m packets went by unheard, where it is not the one before
  missed-is : (arrived : List ℕ) (m : ℕ) → step_of last ci ≡ suc m → (Again (standing h) (packet_at ci) arrived → ⊥) → (arrival_at h ci arrived).missed ≡ m
  unfolding arrival_of
  missed-is arrived m d n = ap₂ missed_of (other-kind (standing h) (packet_at ci) arrived m n (step_is ∙ d) refl) (step_is ∙ d) ∙ omega arith

fifteen-zero : (h : Held) (arrived : List ℕ) → h.ci ≡ 15 → (arrival_at h 0 arrived).missed ≡ 0
unfolding step_of
fifteen-zero h arrived e = missed-is h 15 0 e arrived 0 refl (λ A. omega (arith, A.step, step_is h 15 0 e))

three-two : (h : Held) (arrived : List ℕ) → h.ci ≡ 3 → (h.before ≡ arrived → ⊥) → (arrival_at h 2 arrived).missed ≡ 14
unfolding step_of
three-two h arrived e n = missed-is h 3 2 e arrived 14 refl (λ A. n A.equal)

three-two-lost : (h : Held) (arrived : List ℕ) → h.ci ≡ 3 → h.successive ≡ false → (arrival_at h 2 arrived).missed ≡ 14
unfolding step_of
three-two-lost h arrived e n = missed-is h 3 2 e arrived 14 refl (λ A. never (sym A.successive ∙ n))

three-two-again : (h : Held) → h.ci ≡ 3 → h.successive ≡ true → arrival_at h 2 h.before ≡ record { kind = Repeat; ci = 2; fixed = 0; missed = 0; onsets = 0 }
unfolding step_of arrival_of arrived_as onsets_after
three-two-again h e u =
    rw (so-again (standing h) (packet_at 2) h.before (record { started = refl; successive = u; step = step_is h 3 2 e; equal = refl }))

-- ---- the table

pub values : Values
unfolding opening items row_of put put_in put_item packet_words summed_words kind flag header_word protected_words sound_words word_of with_b9 bit ones even_parity total checksum_of parity_of remainder next divisor_bytes ◌⊞◌ scale ◌⊗◌ by_bits double ◌⊕◌ station_rule station_byte sound_byte sound_rule one_of picture_rule picture_clean low_half time_rule time_byte decimal is_sound b8_right b9_right soundness_of unsound_from first_from all same narrow has_flag low_bytes part broken reserved_area reserved_refusal content_refusal laid_out record_of correction_of index_of protected_of read_words read_bytes summed_of read_fixed head_refusal protected_refusal body_refusal read_refusal read_record packet_of reading_of
values = record {
  byte_85 = refl;
  byte_0f = refl;
  parity_of_one = refl;
  zero_on = refl;
  zero_off = refl;
  zero_off_read = refl;
  fresh_off = refl;
  fresh_off_read = refl;
  fresh_off_record = refl;
  sound_92 = refl;
  sound_89 = refl;
  sound_32 = refl;
  sound_1a = refl;
  sound_1b = refl;
  picture_85 = refl;
  picture_05 = refl;
  picture_80 = refl;
  picture_86 = refl;
  second_59 = refl;
  second_5a = refl;
  second_60 = refl;
  index_15_then_0 = fifteen-zero;
  index_3_then_2 = three-two;
  index_3_then_2_lost = three-two-lost;
  index_3_then_2_again = three-two-again;
  b8_inverted = b8-wrong;
  b9_inverted = b9-wrong;
  both_inverted = both-wrong;
}
