-- Runs of words: their lengths and entries, the bytes that sound words carry, which words are narrow, and a lent buffer that is filled.
-- Assumes nothing.
use Rattle.std.proofs.Common.{◌≡◌, ℕ, zero, suc, ◌%◌, ◌<◌, ◌≤◌, Bool, true, ◌&&◌, eqb, leb, List, [], ◌∷◌, ◌++◌, map, max, length, get_or, take, sym, refl, ap, ◌∙◌, ap₂, ⊎_elim, le_of_suc-le-suc, not-suc-le-zero, mod-lt, arith, eq-eqb, ne_eqb, le-leb, leb-true}
use mathlib.Core.Bool.{and-false, and_comm}
use mathlib.Core.Bool.{false≢true}
use borrow.Author.Tests.{lt-leb, eqb-true}
use lib.ListN.{length-map}
use Rattle.basics.specs.Each.{all}
use Rattle.basics.specs.Below.{Below, Bytes}
use Rattle.basics.proofs.Laws.Each.{all_append, same-equal}
use Rattle.basics.proofs.Laws.Test.{both_true, lt-or-le}
use Rattle.refusal.specs.Chain.{require, passed}
use Rattle.refusal.specs.Checked.{Checked, checked_of}
use Rattle.refusal.specs.declared.Refusal.{Refusal}
use Rattle.refusal.proofs.Laws.Chain.{check-passed, check-failed}
use Rattle.refusal.specs.Number.{refusal_plain}
use Rattle.refusal.specs.declared.Reason.TheVariants.{Room}
use Rattle.std.specs.Prelude.{Ok, Err}
use Rattle.anc.specs.Word.{is_sound, word_of}
use Rattle.anc.specs.Words.{flag, has_flag, narrow, low_bytes, sound_words, fill_refusal, fill_leaves}
use Rattle.anc.proofs.Laws.Word.{word_lt, word_low, word_sound}

-- ---- the flag

-- words that begin with it
pub flag-words : (words : List ℕ) → has_flag words ≡ true → take 3 words ≡ flag
unfolding has_flag
flag-words words e = same-equal (take 3 words) flag e

-- ---- lengths

pub low_bytes-length : (words : List ℕ) → length (low_bytes words) ≡ length words
unfolding low_bytes
low_bytes-length words = length-map words _

pub sound_words-length : (bytes : List ℕ) → length (sound_words bytes) ≡ length bytes
unfolding sound_words
sound_words-length bytes = length-map bytes word_of

-- ---- entries

map_at : (f : ℕ → ℕ) (l : List ℕ) (i : ℕ) → i < length l → get_or (map f l) i 0 ≡ f (get_or l i 0)
map_at f [] i h = absurd (not-suc-le-zero h)
map_at f (x ∷ l) zero h = refl
map_at f (x ∷ l) (suc i) h = map_at f l i (le_of_suc-le-suc h)

pub low_bytes-at : (words : List ℕ) (i : ℕ) → i < length words → get_or (low_bytes words) i 0 ≡ get_or words i 0 % 256
unfolding low_bytes
low_bytes-at words i h = map_at (λ w. w % 256) words i h

pub sound_words-at : (bytes : List ℕ) (i : ℕ) → i < length bytes → get_or (sound_words bytes) i 0 ≡ word_of (get_or bytes i 0)
unfolding sound_words
sound_words-at bytes i h = map_at word_of bytes i h

-- ---- sound words and the bytes that they carry

pub low-bytes : (words : List ℕ) → Bytes (low_bytes words)
unfolding low_bytes
low-bytes [] = tt
low-bytes (w ∷ words) = (mod-lt w (omega arith), low-bytes words)

-- sound words carry the bytes that they were made of
pub low-words : (bytes : List ℕ) → Bytes bytes → low_bytes (sound_words bytes) ≡ bytes
unfolding low_bytes sound_words
low-words [] b = refl
low-words (x ∷ bytes) b = ap₂ (λ (y : ℕ) (l : List ℕ). y ∷ l) (word_low x b.0) (low-words bytes b.1)

-- each word that is made of a byte is sound
pub sound-at : (bytes : List ℕ) → Bytes bytes → (i : ℕ) → i < length bytes → is_sound (get_or (sound_words bytes) i 0) ≡ true
unfolding sound_words
sound-at [] b i h = absurd (not-suc-le-zero h)
sound-at (x ∷ bytes) b zero h = word_sound x b.0
sound-at (x ∷ bytes) b (suc i) h = sound-at bytes b.1 i (le_of_suc-le-suc h)

-- a test that passes at the word of each byte passes at each word of bytes
pub words-all : (f : ℕ → Bool) → ((b : ℕ) → b < 256 → f (word_of b) ≡ true) → (bytes : List ℕ) → Bytes bytes → all f (sound_words bytes) ≡ true
unfolding all sound_words
words-all f h [] b = refl
words-all f h (x ∷ bytes) b = ap₂ ◌&&◌ (h x b.0) (words-all f h bytes b.1)

-- ---- one run behind another

pub words_append : (xs ys : List ℕ) → sound_words (xs ++ ys) ≡ sound_words xs ++ sound_words ys
unfolding sound_words
words_append [] ys = refl
words_append (x ∷ xs) ys = ap (λ (l : List ℕ). word_of x ∷ l) (words_append xs ys)

pub low-append : (xs ys : List ℕ) → low_bytes (xs ++ ys) ≡ low_bytes xs ++ low_bytes ys
unfolding low_bytes
low-append [] ys = refl
low-append (x ∷ xs) ys = ap (λ (l : List ℕ). x % 256 ∷ l) (low-append xs ys)

-- ---- narrow words

pub narrow-cons : (w : ℕ) (ws : List ℕ) → w < 1024 → narrow ws ≡ true → narrow (w ∷ ws) ≡ true
unfolding narrow all
narrow-cons w ws h p = ap₂ ◌&&◌ (le-leb w 1023 (omega arith)) p

pub narrow-append : (xs ys : List ℕ) → narrow xs ≡ true → narrow ys ≡ true → narrow (xs ++ ys) ≡ true
unfolding narrow
narrow-append xs ys p q = all_append _ xs ys p q

pub words-narrow : (bytes : List ℕ) → Bytes bytes → narrow (sound_words bytes) ≡ true
unfolding narrow
words-narrow bytes b = words-all _ (λ x h. let n : word_of x < 1024 = word_lt x h in le-leb (word_of x) 1023 (omega arith)) bytes b

-- each is below 1,024
pub narrow_below : (words : List ℕ) → narrow words ≡ true → Below 1024 words
unfolding narrow all
narrow_below [] e = tt
narrow_below (w ∷ words) e =
    let both = both_true _ _ e in
    let h : w ≤ 1023 = leb-true w 1023 both.0 in
    (omega arith, narrow_below words both.1)

pub below-narrow : (words : List ℕ) → Below 1024 words → narrow words ≡ true
unfolding narrow all
below-narrow [] p = refl
below-narrow (w ∷ words) p = let h = p.0 in ap₂ ◌&&◌ (le-leb w 1023 (omega arith)) (below-narrow words p.1)

-- of two words that are both to fit, the larger decides
larger-fits : (a b : ℕ) → a ≤ b → leb b 1023 ≡ (leb a 1023 && leb b 1023)
larger-fits a b h =
    ⊎_elim (λ (l : 1023 < b). rw (lt-leb b 1023 l) (sym (and-false (leb a 1023)))) (λ (l : b ≤ 1023). rw (le-leb a 1023 (omega arith))) (lt-or-le 1023 b)

pub max-fits : (a b : ℕ) → leb (max a b) 1023 ≡ (leb a 1023 && leb b 1023)
max-fits a b =
    ⊎_elim (λ (l : a < b). let m : max a b ≡ b = omega arith in rw m (larger-fits a b (omega arith)))
    (λ (l : b ≤ a). let m : max a b ≡ a = omega arith in rw m (larger-fits b a l ∙ and_comm (leb b 1023) (leb a 1023))) (lt-or-le a b)

-- ---- a lent buffer that is filled where it has room for the new entries

module _ (new old : List ℕ) where
  pub left_alone : (length new ≡ length old → ⊥) → (Err (refusal_plain Room) ≡ checked_of (fill_refusal new (length old))) × (old ≡ fill_leaves new old)
  unfolding fill_refusal fill_leaves
  left_alone n = rw (ne_eqb (length new) (length old) n) (refl, refl)

  pub filled-whole : length new ≡ length old → (out : List ℕ) → out ≡ new → (Ok tt ≡ checked_of (fill_refusal new (length old))) × (out ≡ fill_leaves new old)
  unfolding fill_refusal fill_leaves
  filled-whole h out f = rw (eq-eqb (length new) (length old) h) (refl, f)

  -- n are made, and the check of the room passed or failed
  module _ (n : ℕ) (m : length new ≡ n) {a : Checked} (e : a ≡ checked_of (require (eqb n (length old)) (refusal_plain Room) passed)) where
    pub has-room : a ≡ Ok tt → length new ≡ length old
    has-room h = m ∙ eqb-true n (length old) (check-passed _ _ (sym h ∙ e))

    pub no-room : (w : Refusal) → a ≡ Err w → (Err w ≡ checked_of (fill_refusal new (length old))) × (old ≡ fill_leaves new old)
    no-room w h =
        let failed = check-failed _ _ w (sym h ∙ e) in
        rw failed.1 (left_alone (λ k. false≢true (sym failed.0 ∙ eq-eqb n (length old) (sym m ∙ k))))

  filled : (out : List ℕ) → out ≡ fill_leaves new old → length new ≡ length old → out ≡ new
  unfolding fill_refusal fill_leaves
  filled out f h = f ∙ rw (eq-eqb (length new) (length old) h)

pub low-filled : (out words old : List ℕ) → out ≡ fill_leaves (low_bytes words) old → length words ≡ length old → out ≡ low_bytes words
low-filled out words old f h = filled (low_bytes words) old out f (low_bytes-length words ∙ h)

pub sound-filled : (out bytes old : List ℕ) → out ≡ fill_leaves (sound_words bytes) old → length bytes ≡ length old → out ≡ sound_words bytes
sound-filled out bytes old f h = filled (sound_words bytes) old out f (sound_words-length bytes ∙ h)

-- with room for them they are not refused
room-done : {a : Checked} (new : List ℕ) (n room : ℕ) → length new ≡ n → n ≡ room → a ≡ checked_of (fill_refusal new room) → a ≡ Ok tt
unfolding fill_refusal
room-done new n room m h e = e ∙ rw (eq-eqb (length new) room (m ∙ h))

pub low-done : {a : Checked} (words : List ℕ) (room : ℕ) → a ≡ checked_of (fill_refusal (low_bytes words) room) → length words ≡ room → a ≡ Ok tt
low-done words room e h = room-done (low_bytes words) (length words) room (low_bytes-length words) h e

pub sound-done : {a : Checked} (bytes : List ℕ) (room : ℕ) → a ≡ checked_of (fill_refusal (sound_words bytes) room) → length bytes ≡ room → a ≡ Ok tt
sound-done bytes room e h = room-done (sound_words bytes) (length bytes) room (sound_words-length bytes) h e
