-- The parts of a packet as it is written: the protected words, the words around them, and the header.
-- Assumes nothing.
use mathlib.Core.Path.{◌≡◌, refl, sym, ap, ◌∙◌}
use mathlib.Core.Bool.{Bool, true, false, cond}
use mathlib.Core.List.{List, ◌∷◌, ◌++◌}
use Prim.Native.Nat.{ℕ, ◌+◌, ◌/◌, ◌%◌, ◌≤◌, ◌<◌}
use native.Mathlib.Omega.{arith}
use borrow.Author.Tests.{eq-eqb, ne_eqb}
use lib.Dec.{eqb}
use lib.ListN.{length, take, length-append, replicate}
use lib.Seq.{take_at, drop_at}
use Rattle.basics.specs.Each.{all}
use Rattle.basics.specs.Below.{Bytes}
use Rattle.basics.proofs.Laws.Below.{append-below}
use Rattle.anc.specs.Word.{is_sound}
use Rattle.anc.specs.Words.{low_bytes, sound_words, narrow, flag}
use Rattle.anc.proofs.Laws.Word.{word_lt, word_low, word_sound}
use Rattle.anc.proofs.Laws.Words.{words_append, low-append, sound_words-length, low-words, words-narrow, narrow-append}
use Rattle.rs.specs.Codeword.{parity_of, Codeword}
use Rattle.rs.proofs.Laws.Division.{parity-length, parity-bytes}
use Rattle.writing.specs.Layout.{kind, header_word, protected_words, summed_words, packet_words, carrying}

-- ---- the protected words: with correction on, those of a codeword

pub written-codeword : (r : List ℕ) → length r ≡ 248 → Bytes r → Codeword (r ++ parity_of r)
written-codeword r n b = record {
  long = length-append r (parity_of r) ∙ omega (arith, parity-length r);
  bytes = append-below 256 r (parity_of r) b (parity-bytes r);
  parity = drop_at r (parity_of r) 248 n ∙ sym (ap parity_of (take_at r (parity_of r) 248 n));
}

pub protected-on : (r : List ℕ) → protected_words true r ≡ sound_words (r ++ parity_of r)
unfolding protected_words
protected-on r = sym (words_append r (parity_of r))

pub length-protected : (on : Bool) (r : List ℕ) → length r ≡ 248 → length (protected_words on r) ≡ 254
unfolding protected_words
length-protected true r n = length-append (sound_words r) _ ∙ omega (arith, sound_words-length r, sound_words-length (parity_of r), parity-length r)
length-protected false r n = length-append (sound_words r) _ ∙ omega (arith, sound_words-length r)

-- the data bytes of the protected words
pub protected-bytes : (on : Bool) (r : List ℕ) → length r ≡ 248 → Bytes r → take 248 (low_bytes (protected_words on r)) ≡ r
unfolding protected_words
protected-bytes on r n b =
    ap (take 248) (low-append (sound_words r) _ ∙ ap (λ (l : List ℕ). l ++ low_bytes (cond on (sound_words (parity_of r)) (replicate 6 0x200))) (low-words r b))
    ∙ take_at r _ 248 n

pub protected-narrow : (on : Bool) (r : List ℕ) → Bytes r → narrow (protected_words on r) ≡ true
unfolding protected_words
protected-narrow true r b = narrow-append _ _ (words-narrow r b) (words-narrow (parity_of r) (parity-bytes r))
protected-narrow false r b = narrow-append _ _ (words-narrow r b) (unfold narrow all in refl)

-- ---- the words around the protected ones

pub packet-carries : (on : Bool) (ci : ℕ) (r : List ℕ) → packet_words on ci r ≡ carrying on ci r (protected_words on r)
unfolding packet_words summed_words flag kind
packet-carries on ci r = refl

pub summed-shape : (on : Bool) (ci : ℕ) (r : List ℕ) → summed_words on ci r ≡ 0x25F ∷ 0x1FE ∷ 0x2FF ∷ header_word on ci ∷ protected_words on r
unfolding summed_words kind
summed-shape on ci r = refl

-- ---- the header

pub header-low : (on : Bool) (ci : ℕ) → ci ≤ 15 → header_word on ci % 256 ≡ cond on 0x80 0 + ci
unfolding header_word
header-low true ci h = word_low (0x80 + ci) (omega arith)
header-low false ci h = word_low (0 + ci) (omega arith)

pub header-lt : (on : Bool) (ci : ℕ) → ci ≤ 15 → header_word on ci < 1024
unfolding header_word
header-lt true ci h = word_lt (0x80 + ci) (omega arith)
header-lt false ci h = word_lt (0 + ci) (omega arith)

pub header-sound : (on : Bool) (ci : ℕ) → ci ≤ 15 → is_sound (header_word on ci) ≡ true
unfolding header_word
header-sound true ci h = word_sound (0x80 + ci) (omega arith)
header-sound false ci h = word_sound (0 + ci) (omega arith)

-- b7 is the correction bit, b6 to b4 are zero, b3 to b0 the index
pub header-b7 : (on : Bool) (ci w : ℕ) → ci ≤ 15 → w % 256 ≡ cond on 0x80 0 + ci → eqb (w / 128 % 2) 1 ≡ on
header-b7 true ci w h e = let z : w / 128 % 2 ≡ 1 = omega arith in eq-eqb (w / 128 % 2) 1 z
header-b7 false ci w h e = ne_eqb (w / 128 % 2) 1 (λ z. omega arith)

pub header-zero : (on : Bool) (ci w : ℕ) → ci ≤ 15 → w % 256 ≡ cond on 0x80 0 + ci → w / 16 % 8 ≡ 0
header-zero true ci w h e = omega arith
header-zero false ci w h e = omega arith

pub header-index : (on : Bool) (ci w : ℕ) → ci ≤ 15 → w % 256 ≡ cond on 0x80 0 + ci → w % 16 ≡ ci
header-index true ci w h e = omega arith
header-index false ci w h e = omega arith
