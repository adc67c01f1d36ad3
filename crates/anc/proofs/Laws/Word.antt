-- A byte's word tells the byte, and a word is sound exactly when it is the word of its low byte.
-- Assumes nothing.
use Rattle.std.proofs.Common.{◌≡◌, ℕ, ◌+◌, ◌-◌, ◌*◌, ◌/◌, ◌%◌, ◌<◌, ◌≤◌, true, false, ◌&&◌, eqb, leb, sym, ap, ◌∙◌, mod-lt, arith, eq-eqb, eqb-true, le-leb, leb-true}
use borrow.Author.Tests.{lt-leb}
use Rattle.anc.specs.Word.{bit, ones, is_sound, parity_of, with_b9, word_of}
use Rattle.basics.proofs.Laws.Test.{both_true, same_test}
use Rattle.anc.proofs.Laws.Bits.{bit-lt, ones-suc, parity-lt, parity-low}

-- ---- the word of a byte

-- its three parts
pub word_sum : (b : ℕ) → b < 256 → word_of b ≡ b + 256 * parity_of b + 512 * (1 - parity_of b)
unfolding word_of with_b9 bit
word_sum b h = omega (arith, parity-lt b)

-- it has ten bits
pub word_lt : (b : ℕ) → b < 256 → word_of b < 1024
word_lt b h = omega (arith, word_sum b h, parity-lt b)

-- its low byte is the byte
pub word_low : (b : ℕ) → b < 256 → word_of b % 256 ≡ b
word_low b h = omega (arith, word_sum b h, parity-lt b)

-- its low nine bits, which go into a checksum
pub word-nine : (b : ℕ) → b < 256 → word_of b % 512 ≡ b + 256 * parity_of b
word-nine b h = omega (arith, word_sum b h, parity-lt b)

-- its b8 is the parity of the byte
pub word-b8 : (b : ℕ) → b < 256 → bit 8 (word_of b) ≡ parity_of b
unfolding bit
word-b8 b h =
    let high : word_of b / 256 ≡ parity_of b + 2 * (1 - parity_of b) = omega (arith, word_sum b h) in
    omega (arith, parity-lt b)

-- its b9 is the inverse of that
pub word-b9 : (b : ℕ) → b < 256 → bit 9 (word_of b) ≡ 1 - parity_of b
unfolding bit
word-b9 b h =
    let high : word_of b / 512 ≡ 1 - parity_of b = omega (arith, word_sum b h, parity-lt b) in
    omega arith

-- two bytes with the same word are the same byte
pub word-inj : (a b : ℕ) → a < 256 → b < 256 → word_of a ≡ word_of b → a ≡ b
word-inj a b ha hb same = sym (word_low a ha) ∙ ap (λ (w : ℕ). w % 256) same ∙ word_low b hb

-- ---- sound words

-- ten bits, with b8 and b9 as b0 to b7 call for
pub record RightBits (w : ℕ) : Type 0 where
  pub ten : w ≤ 1023
  pub b8 : bit 8 w ≡ parity_of w
  pub b9 : bit 9 w ≡ 1 - parity_of w

-- a sound word has its bits right
pub sound-right : (w : ℕ) → is_sound w ≡ true → RightBits w
unfolding is_sound parity_of
sound-right w s =
    let parts : (leb w 1023 ≡ true) × ((eqb (ones 9 w % 2) 0 && eqb (bit 9 w) (1 - bit 8 w)) ≡ true) = both_true _ _ s in
    let bits : (eqb (ones 9 w % 2) 0 ≡ true) × (eqb (bit 9 w) (1 - bit 8 w) ≡ true) = both_true _ _ parts.1 in
    let ten : w ≤ 1023 = leb-true _ _ parts.0 in
    let even : ones 9 w % 2 ≡ 0 = eqb-true _ _ bits.0 in
    let inverse : bit 9 w ≡ 1 - bit 8 w = eqb-true _ _ bits.1 in
    omega (arith, ones-suc 8 w, bit-lt 8 w)

-- a word with its bits right is sound
pub right-sound : (w : ℕ) → RightBits w → is_sound w ≡ true
unfolding is_sound parity_of
right-sound w right =
    let even : ones 9 w % 2 ≡ 0 = omega (arith, ones-suc 8 w) in
    let inverse : bit 9 w ≡ 1 - bit 8 w = omega arith in
    simp (le-leb w 1023 right.ten, eq-eqb (ones 9 w % 2) 0 even, eq-eqb (bit 9 w) (1 - bit 8 w) inverse)

-- the word of a byte is sound
pub word_sound : (b : ℕ) → b < 256 → is_sound (word_of b) ≡ true
word_sound b h =
    let same : parity_of (word_of b) ≡ parity_of b = sym (parity-low (word_of b)) ∙ ap parity_of (word_low b h) in
    right-sound (word_of b) (omega (arith, word_lt b h, word-b8 b h, word-b9 b h))

-- a number of ten bits is its low byte, b8 and b9
pub word-parts : (w : ℕ) → w ≤ 1023 → w ≡ w % 256 + 256 * bit 8 w + 512 * bit 9 w
unfolding bit
word-parts w h = omega arith

-- a sound word is the word of its low byte
pub sound-is-word : (w : ℕ) → is_sound w ≡ true → w ≡ word_of (w % 256)
sound-is-word w s =
    let right : RightBits w = sound-right w s in
    omega (arith, word-parts w right.ten, word_sum (w % 256) (mod-lt w (omega arith)), parity-low w)

-- a word is sound exactly when it is the word of its low byte
pub sound-word : (w : ℕ) → is_sound w ≡ eqb w (word_of (w % 256))
sound-word w =
    same_test _ _
    (λ s. eq-eqb w (word_of (w % 256)) (sound-is-word w s))
    (λ e. ap is_sound (eqb-true w (word_of (w % 256)) e) ∙ word_sound (w % 256) (mod-lt w (omega arith)))

-- a number over 1,023 is not sound
pub wide-unsound : (w : ℕ) → 1023 < w → is_sound w ≡ false
unfolding is_sound
wide-unsound w h = simp (lt-leb w 1023 h)
