-- Read after write, with and without damage: what was written is what is read, and fixed is the number of words that changed.
-- Assumes nothing.
use mathlib.Core.Path.{◌≡◌, refl, sym, ap, ◌∙◌}
use mathlib.Core.Bool.{Bool, true, false}
use mathlib.Core.List.{List, ◌++◌}
use mathlib.Core.Option.{none}
use Prim.Native.Nat.{ℕ, ◌≤◌}
use native.Mathlib.Omega.{arith}
use lib.ListN.{length, take, drop, replicate}
use lib.Seq.{take_at, drop_at}
use Rattle.anc.specs.Word.{is_sound}
use Rattle.anc.proofs.Laws.Word.{word_sound}
use Rattle.soundness.proofs.Laws.Run.{sound-passed}
use Rattle.basics.specs.Each.{all}
use Rattle.rs.specs.Codeword.{parity_of}
use Rattle.basics.specs.Below.{Bytes}
use Rattle.rs.specs.Decode.{changes}
use Rattle.rs.proofs.Laws.Distance.{changes-self}
use Rattle.record.specs.Record.{content_refusal}
use Rattle.anc.specs.Words.{sound_words, narrow}
use Rattle.writing.specs.Layout.{protected_words, packet_words, carrying}
use Rattle.reading.specs.Reading.{correction_of, protected_of, read_words, read_fixed, is_fill, protected_refusal}
use Rattle.reading.specs.Answer.{packet_of}
use Rattle.anc.proofs.Laws.Words.{sound_words-length, words-all}
use Rattle.repair.specs.Reach.{damage}
use Rattle.repair.proofs.Laws.Damage.{few-damage, damage-within}
use Rattle.repair.proofs.Laws.Repair.{Recovered, repair-recovers}
use Rattle.writing.proofs.Laws.Layout.{written-codeword, protected-on, length-protected, protected-narrow, packet-carries}
use Rattle.reading.proofs.Laws.Carried.{Reads, carried-correction, carried-protected, reads}

-- ---- correction on, and protected words changed with 2e + f at most 6

module _ (ci : ℕ) (r q : List ℕ) (hc : ci ≤ 15) (nr : length r ≡ 248) (br : Bytes r) (nq : length q ≡ 254) (wq : narrow q ≡ true)
    (few : damage q (protected_words true r) ≤ 6) where
  abbrev ws : List ℕ
  ws = carrying true ci r q

  mend : Recovered q (sound_words (r ++ parity_of r))
  mend =
      let C = written-codeword r nr br in
      repair-recovers (r ++ parity_of r) q (damage-within (r ++ parity_of r) q C (nq ∙ sym C.long) (rw (protected-on r) at few))

  on : correction_of ws ≡ true
  on = carried-correction true ci r q hc

  protected : protected_of ws ≡ q
  protected = carried-protected true ci r q hc nr br nq wq

  passes : protected_refusal (correction_of ws) (protected_of ws) ≡ none
  unfolding protected_refusal
  passes = simp (on, protected, mend.readable)

  words : read_words ws ≡ protected_words true r
  unfolding read_words
  words = simp (on, protected) (mend.recovered ∙ sym (protected-on r))

  pub damaged-reads : content_refusal r ≡ none → Reads ws true ci r
  damaged-reads b = reads true ci r q hc nr br nq wq words passes b

  pub damaged-fixed : read_fixed ws ≡ changes q (protected_words true r)
  unfolding read_fixed
  damaged-fixed = simp (on, protected) (mend.counted ∙ ap (changes q) (sym (protected-on r)))

-- ---- as it was written

module _ (ci : ℕ) (r : List ℕ) (hc : ci ≤ 15) (nr : length r ≡ 248) (br : Bytes r) where
  abbrev off-words : List ℕ
  off-words = carrying false ci r (protected_words false r)

  off : correction_of off-words ≡ false
  off = carried-correction false ci r (protected_words false r) hc

  off-protected : protected_of off-words ≡ protected_words false r
  off-protected = carried-protected false ci r (protected_words false r) hc nr br (length-protected false r nr) (protected-narrow false r br)

  off-data : take 248 (protected_words false r) ≡ sound_words r
  unfolding protected_words
  off-data = take_at (sound_words r) _ 248 (sound_words-length r ∙ nr)

  off-fill : drop 248 (protected_words false r) ≡ replicate 6 0x200
  unfolding protected_words
  off-fill = drop_at (sound_words r) _ 248 (sound_words-length r ∙ nr)

  six-fill : all is_fill (replicate 6 0x200) ≡ true
  unfolding all
  six-fill = refl

  off-passes : protected_refusal (correction_of off-words) (protected_of off-words) ≡ none
  unfolding protected_refusal
  off-passes = simp (off, off-protected, off-data, off-fill, sound-passed 1 (sound_words r) (words-all is_sound word_sound r br), six-fill)

  off-read : read_words off-words ≡ protected_words false r
  unfolding read_words
  off-read = simp (off, off-protected)

  off_fixed : read_fixed off-words ≡ 0
  unfolding read_fixed
  off_fixed = simp off

-- with correction on each protected word is written sound
pub protected-sound : (r : List ℕ) → length r ≡ 248 → Bytes r → all is_sound (protected_words true r) ≡ true
protected-sound r nr br = ap (all is_sound) (protected-on r) ∙ words-all is_sound word_sound _ (written-codeword r nr br).bytes

-- so that as it was written it has no damage
written-damage : (r : List ℕ) → length r ≡ 248 → Bytes r → damage (protected_words true r) (protected_words true r) ≤ 6
written-damage r nr br =
    few-damage (protected_words true r) (protected_words true r) refl (protected-sound r nr br) (omega (arith, changes-self (protected_words true r)))

-- a packet as it was written reads as its record, index and correction bit, with nothing fixed
pub written-reads : (on : Bool) (ci : ℕ) (r : List ℕ) → ci ≤ 15 → length r ≡ 248 → Bytes r → content_refusal r ≡ none → Reads (packet_words on ci r) on ci r
written-reads true ci r hc nr br b =
    rw packet-carries
    (damaged-reads ci r (protected_words true r) hc nr br (length-protected true r nr) (protected-narrow true r br) (written-damage r nr br) b)
written-reads false ci r hc nr br b =
    rw packet-carries
    (reads false ci r (protected_words false r) hc nr br (length-protected false r nr) (protected-narrow false r br) (off-read ci r hc nr br) (off-passes ci r hc nr br) b)

pub written-fixed : (on : Bool) (ci : ℕ) (r : List ℕ) → ci ≤ 15 → length r ≡ 248 → Bytes r → read_fixed (packet_words on ci r) ≡ 0
written-fixed true ci r hc nr br =
    rw packet-carries
    (damaged-fixed ci r (protected_words true r) hc nr br (length-protected true r nr) (protected-narrow true r br) (written-damage r nr br)
    ∙ changes-self (protected_words true r))
written-fixed false ci r hc nr br = rw packet-carries (off_fixed ci r hc nr br)

-- which is the packet that is told
pub written-packet : (on : Bool) (ci : ℕ) (r : List ℕ) → ci ≤ 15 → length r ≡ 248 → Bytes r → content_refusal r ≡ none
    → packet_of (packet_words on ci r) ≡ record { correction = on; ci = ci; fixed = 0 }
unfolding packet_of
written-packet on ci r hc nr br b =
    let R = written-reads on ci r hc nr br b in
    λ i. record { correction = R.correction i; ci = R.index i; fixed = written-fixed on ci r hc nr br i }
