-- The word check: what it answers by b8 and b9, and that a word is sound exactly when the answer is.
-- Assumes nothing.
use mathlib.Core.Path.{◌≡◌, refl, sym, ap, ap₂, ◌∙◌}
use mathlib.Core.Bool.{Bool, true, false, cond}
use mathlib.Core.Logic.{⊎_elim}
use mathlib.Core.Option.{some-ne-none}
use Prim.Native.Nat.{ℕ, ◌-◌, ◌/◌, ◌%◌, ◌≤◌, ◌<◌}
use native.Mathlib.Nat.{mod-lt}
use native.Mathlib.Omega.{arith}
use borrow.Author.Tests.{eq-eqb, eqb-true, le-leb, lt-leb, leb-true}
use lib.Dec.{leb, eqb}
use Rattle.basics.proofs.Laws.Test.{lt-or-le, fails}
use Rattle.refusal.specs.Number.{refusal_plain}
use Rattle.refusal.specs.declared.Reason.TheVariants.{Wide}
use Rattle.refusal.specs.declared.Refusal.{Refusal}
use Rattle.refusal.proofs.Laws.Chain.{passed-other}
use Rattle.std.specs.Prelude.{Ok, Err, None}
use Rattle.anc.specs.Word.{bit, parity_of, word_of, is_sound}
use Rattle.refusal.specs.Checked.{refusal_in}
use Rattle.soundness.specs.Check.{b8_right, b9_right, wrong_by, Soundness, soundness_of, wrong_in}
use Rattle.anc.proofs.Laws.Bits.{parity-low}
use Rattle.anc.proofs.Laws.Word.{word_lt, word-b8, word-b9, RightBits, sound-right, right-sound}

-- ---- one word

-- the answer for a word of ten bits
abbrev by_bits : Bool → Bool → Soundness
by_bits b8 b9 = Ok (wrong_by b8 b9)

pub wide-refused : (w : ℕ) → 1023 < w → soundness_of w ≡ Err (refusal_plain Wide)
unfolding soundness_of
wide-refused w h = rw (lt-leb w 1023 h)

pub narrow-answer : (w : ℕ) → w ≤ 1023 → soundness_of w ≡ by_bits (b8_right w) (b9_right w)
unfolding soundness_of
narrow-answer w h = rw (le-leb w 1023 h)

-- each bit against that of the word of the low byte
pub checked-bits : (w called : ℕ) → w ≤ 1023 → called ≡ word_of (w % 256)
    → by_bits (eqb (w / 256 % 2) (called / 256 % 2)) (eqb (w / 512) (called / 512)) ≡ soundness_of w
unfolding b8_right b9_right bit
checked-bits w called h e =
    let low : w % 256 < 256 = mod-lt w (omega arith) in
    let b8 : called / 256 % 2 ≡ parity_of w = ap (bit 8) e ∙ word-b8 (w % 256) low ∙ parity-low w in
    let b9 : called / 512 % 2 ≡ 1 - parity_of w = ap (bit 9) e ∙ word-b9 (w % 256) low ∙ ap (λ (p : ℕ). 1 - p) (parity-low w) in
    let ten : called < 1024 = rw e (word_lt (w % 256) low) in
    let top : w / 512 ≡ w / 512 % 2 = omega arith in
    let called-top : called / 512 ≡ called / 512 % 2 = omega arith in
    ap₂ by_bits (ap (eqb (w / 256 % 2)) b8) (ap₂ eqb top (called-top ∙ b9)) ∙ sym (narrow-answer w h)

-- the answer is sound only for a word of ten bits with both of them right
sound-by : (ten b8 b9 : Bool) (why : Refusal) → cond ten (by_bits b8 b9) (Err why) ≡ Ok None → (ten ≡ true) × (b8 ≡ true) × (b9 ≡ true)
sound-by true true true why e = (refl, refl, refl)
sound-by true true false why e = absurd (some-ne-none _ (ap wrong_in e))
sound-by true false true why e = absurd (some-ne-none _ (ap wrong_in e))
sound-by true false false why e = absurd (some-ne-none _ (ap wrong_in e))
sound-by false b8 b9 why e = absurd (some-ne-none why (ap refusal_in e))

-- a word is sound exactly when the answer is sound
pub sound-checked : (w : ℕ) → is_sound w ≡ true → soundness_of w ≡ Ok None
unfolding b8_right b9_right
sound-checked w s =
    let right : RightBits w = sound-right w s in
    narrow-answer w right.ten ∙ ap₂ by_bits (eq-eqb _ _ right.b8) (eq-eqb _ _ right.b9)

pub checked-sound : (w : ℕ) → soundness_of w ≡ Ok None → is_sound w ≡ true
unfolding soundness_of b8_right b9_right
checked-sound w e =
    let (ten, b8, b9) = sound-by (leb w 1023) (b8_right w) (b9_right w) _ e in
    right-sound w (record { ten = leb-true w 1023 ten; b8 = eqb-true _ _ b8; b9 = eqb-true _ _ b9 })

-- a word whose answer is another is not
pub not_sound : (w : ℕ) → (soundness_of w ≡ Ok None → ⊥) → is_sound w ≡ false
not_sound w n = (fails (is_sound w)).1 (λ s. n (sound-checked w s))

-- a word of ten bits is not refused
pub narrow-unrefused : (w : ℕ) (why : Refusal) → w ≤ 1023 → soundness_of w ≡ Err why → ⊥
narrow-unrefused w why h e = by (b8_right w) (b9_right w) (sym (narrow-answer w h) ∙ e)
  where
    by : (b8 b9 : Bool) → by_bits b8 b9 ≡ Err why → ⊥
    by true true e = passed-other why (ap refusal_in e)
    by true false e = passed-other why (ap refusal_in e)
    by false true e = passed-other why (ap refusal_in e)
    by false false e = passed-other why (ap refusal_in e)

-- only a number over 1,023 is refused, and with 2
pub refused-wide : (w : ℕ) (why : Refusal) → soundness_of w ≡ Err why → why ≡ refusal_plain Wide
refused-wide w why e =
    ⊎_elim
    (λ (h : 1023 < w). let same : Err why ≡ Err (refusal_plain Wide) = sym e ∙ wide-refused w h in cc)
    (λ (h : w ≤ 1023). absurd (narrow-unrefused w why h e))
    (lt-or-le 1023 w)
