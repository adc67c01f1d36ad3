-- What a reader finds of a packet as it is written: the same record, index and correction bit, also where protected words were changed on the
-- way and are read as they were written.
-- Assumes nothing.
use mathlib.Core.Path.{◌≡◌, refl, sym, ap, ap₂, ◌∙◌}
use mathlib.Core.Bool.{Bool, true, ◌&&◌}
use mathlib.Core.List.{List, [], ◌∷◌}
use mathlib.Core.Option.{none}
use Prim.Native.Nat.{ℕ, ◌/◌, ◌%◌, ◌≤◌}
use native.Mathlib.Omega.{arith}
use borrow.Author.Tests.{eq-eqb}
use lib.Dec.{eqb, lit<}
use lib.ListN.{length, get_or, take, length-append}
use lib.Seq.{take_at, get_or_at}
use Rattle.basics.specs.Each.{all, same}
use Rattle.basics.specs.Below.{Bytes}
use Rattle.anc.specs.Word.{is_sound, checksum_of}
use Rattle.anc.specs.Words.{flag, has_flag, low_bytes, narrow}
use Rattle.anc.proofs.Laws.Checksum.{checksum-lt}
use Rattle.anc.proofs.Laws.Words.{narrow-cons, narrow-append}
use Rattle.record.specs.Record.{content_refusal, record_of}
use Rattle.writing.specs.Layout.{header_word, protected_words, summed_words, carrying}
use Rattle.writing.proofs.Laws.Layout.{protected-bytes, summed-shape, header-low, header-lt, header-sound, header-b7, header-zero, header-index}
use Rattle.reading.specs.Reading.{correction_of, index_of, protected_of, read_words, read_bytes, summed_of, head_refusal, protected_refusal, body_refusal, read_refusal, read_record}

-- the packet is accepted, with this correction bit, index and data bytes, and with their record
pub record Reads (words : List ℕ) (on : Bool) (ci : ℕ) (r : List ℕ) : Type 0 where
  pub accepted : read_refusal words ≡ none
  pub correction : correction_of words ≡ on
  pub index : index_of words ≡ ci
  pub bytes : read_bytes words ≡ r
  pub rec : read_record words ≡ record_of r

-- ---- the header, whatever the record and the protected words are

pub carried-correction : (on : Bool) (ci : ℕ) (r q : List ℕ) → ci ≤ 15 → correction_of (carrying on ci r q) ≡ on
unfolding correction_of
carried-correction on ci r q hc = header-b7 on ci (header_word on ci) hc (header-low on ci hc)

carried-index : (on : Bool) (ci : ℕ) (r q : List ℕ) → ci ≤ 15 → index_of (carrying on ci r q) ≡ ci
unfolding index_of
carried-index on ci r q hc = header-index on ci (header_word on ci) hc (header-low on ci hc)

-- ---- the whole packet

module _ (on : Bool) (ci : ℕ) (r q : List ℕ) (hc : ci ≤ 15) (nr : length r ≡ 248) (br : Bytes r) (nq : length q ≡ 254) (wq : narrow q ≡ true) where
  abbrev ws : List ℕ
  ws = carrying on ci r q

  pub carried-protected : protected_of ws ≡ q
  unfolding protected_of
  carried-protected = take_at q _ 254 nq

  carried-length : length ws ≡ 262
  carried-length = omega (arith, length-append q (checksum_of (summed_words on ci r) ∷ []))

  carried-narrow : narrow ws ≡ true
  carried-narrow =
      narrow-cons _ _ (lit< tt)
      (narrow-cons _ _ (lit< tt) (narrow-cons _ _ (lit< tt) (narrow-cons _ _ (lit< tt) (narrow-cons _ _ (lit< tt) (narrow-cons _ _ (lit< tt)
      (narrow-cons _ _ (header-lt on ci hc) (narrow-append q _ wq (narrow-cons _ [] (checksum-lt _) (unfold narrow all in refl)))))))))

  carried-last : get_or ws 261 0 ≡ checksum_of (summed_words on ci r)
  carried-last = get_or_at q (checksum_of (summed_words on ci r)) [] 0 254 nq

  carried-header : is_sound (header_word on ci) && eqb (header_word on ci / 16 % 8) 0 ≡ true
  carried-header = ap₂ ◌&&◌ (header-sound on ci hc) (eq-eqb _ 0 (header-zero on ci (header_word on ci) hc (header-low on ci hc)))

  module _ (w : read_words ws ≡ protected_words on r) where
    carried-bytes : read_bytes ws ≡ r
    unfolding read_bytes
    carried-bytes = ap (λ (l : List ℕ). take 248 (low_bytes l)) w ∙ protected-bytes on r nr br

    carried-record : read_record ws ≡ record_of r
    unfolding read_record
    carried-record = ap record_of carried-bytes

    carried-sum : eqb (checksum_of (summed_of ws)) (get_or ws 261 0) ≡ true
    unfolding summed_of
    carried-sum =
        let e : summed_of ws ≡ summed_words on ci r = ap (λ (l : List ℕ). 0x25F ∷ 0x1FE ∷ 0x2FF ∷ header_word on ci ∷ l) w ∙ sym (summed-shape on ci r) in
        eq-eqb (checksum_of (summed_of ws)) (get_or ws 261 0) (ap checksum_of e ∙ sym carried-last)

    -- once its protected words are read as they were written, the packet reads as what was written
    pub reads : protected_refusal (correction_of ws) (protected_of ws) ≡ none → content_refusal r ≡ none → Reads ws on ci r
    reads e b = record { accepted = accepted; correction = carried-correction on ci r q hc; index = carried-index on ci r q hc; bytes = carried-bytes; rec = carried-record }
      where
        accepted : read_refusal ws ≡ none
        accepted =
            unfold read_refusal head_refusal body_refusal has_flag flag same in
            simp (eq-eqb (length ws) 262 carried-length, carried-narrow, carried-header, e, carried-sum, carried-bytes, b)
