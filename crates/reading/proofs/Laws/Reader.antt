-- The laws of reading part by part: the checks of the protected words and their bytes, the words that are summed, and what is told of a
-- packet.
-- Assumes nothing.
use mathlib.Core.Path.{◌≡◌, refl, sym, ap, ◌∙◌}
use mathlib.Core.Bool.{Bool, true, false, cond}
use mathlib.Core.List.{List, [], ◌∷◌, ◌++◌, append-nil}
use Prim.Native.Nat.{ℕ, suc, ◌%◌}
use native.Mathlib.Omega.{arith}
use lib.ListN.{length, take, drop, length-drop}
use lib.Seq.{take_all}
use Rattle.soundness.specs.Check.{unsound_from}
use Rattle.refusal.specs.Chain.{require, next, passed}
use Rattle.refusal.specs.Number.{refusal_plain}
use Rattle.refusal.specs.declared.Reason.TheVariants.{Fill, BeyondRepair}
use Rattle.rs.specs.Decode.{changes}
use Rattle.search.specs.Marked.{marked_refusal, marked_leaves}
use Rattle.search.proofs.Laws.Marked.{marked-decides, marked-leaves}
use Rattle.basics.specs.Each.{all}
use Rattle.basics.proofs.Laws.Parts.{join, part-entries}
use Rattle.reading.specs.declared.Packet.{Packet}
use Rattle.repair.specs.Protected.{repairable, repaired, rewritten}
use Rattle.repair.specs.Repair.{counted_of}
use Rattle.std.specs.Prelude.{Ok}
use Rattle.repair.proofs.Laws.Changes.{counted_words}
use Rattle.anc.specs.Words.{low_bytes, sound_words}
use Rattle.reading.specs.Reading.{word, correction_of, index_of, protected_of, data_words, is_fill, protected_refusal}
use Rattle.reading.specs.Answer.{packet_by, guard_bytes, summed_by}
use Rattle.anc.proofs.Laws.Words.{low_bytes-length, sound_words-length, low-words}
use Rattle.repair.proofs.Laws.Repair.{repaired-bytes, rewritten-length}

-- ---- the protected words

module _ (on : Bool) (ws : List ℕ) where
  pub guarded-on : on ≡ true → protected_refusal on ws ≡ require (repairable ws) (refusal_plain BeyondRepair) passed
  unfolding protected_refusal
  guarded-on e = rw e

  -- that is what repair of their bytes with the words is refused for
  pub repair-decides : on ≡ true → length ws ≡ 254 → marked_refusal ws (low_bytes ws) ≡ protected_refusal on ws
  unfolding repairable
  repair-decides e n = marked-decides ws (low_bytes ws) n (low_bytes-length ws ∙ n) ∙ sym (guarded-on e)

  pub guarded-off : on ≡ false
      → protected_refusal on ws ≡ next (unsound_from 1 (data_words ws)) (require (all is_fill (drop 248 ws)) (refusal_plain Fill) passed)
  unfolding protected_refusal
  guarded-off e = rw e

  -- the bytes that it leaves are those of the words that they are rewritten as
  pub bytes_on : on ≡ true → length ws ≡ 254 → marked_leaves ws (low_bytes ws) ≡ guard_bytes on ws
  unfolding guard_bytes rewritten repaired
  bytes_on e n = marked-leaves ws (low_bytes ws) n (low_bytes-length ws ∙ n) ∙ rw e (sym (low-words (repaired ws) (repaired-bytes ws)))

  pub bytes-off : on ≡ false → low_bytes ws ≡ guard_bytes on ws
  unfolding guard_bytes
  bytes-off e = rw e

pub guard_bytes-length : (on : Bool) (ws : List ℕ) → length (guard_bytes on ws) ≡ length ws
unfolding guard_bytes
guard_bytes-length true ws = low_bytes-length (rewritten ws) ∙ rewritten-length ws
guard_bytes-length false ws = low_bytes-length ws

-- the last six of 254
pub last-six : (ws : List ℕ) → length ws ≡ 254 → take 6 (drop 248 ws) ≡ drop 248 ws
last-six ws n = take_all 6 (drop 248 ws) (omega (arith, length-drop 248 ws))

-- ---- the words that are summed

-- four words and 254 sound ones are 258
pub four-more : (bytes l : List ℕ) → l ≡ sound_words bytes → length bytes ≡ 254 → 258 ≡ suc (suc (suc (suc (length (l ++ [])))))
four-more bytes l e n =
    let m : length (l ++ []) ≡ length bytes = ap length (append-nil l ∙ e) ∙ sound_words-length bytes in
    omega (arith, m)

pub summed-on : (ws bytes l : List ℕ) → length ws ≡ 262 → l ≡ sound_words bytes
    → word ws 3 ∷ word ws 4 ∷ word ws 5 ∷ word ws 6 ∷ (l ++ []) ≡ summed_by true ws bytes
unfolding summed_by
summed-on ws bytes l n e =
    ap (λ (m : List ℕ). word ws 3 ∷ word ws 4 ∷ word ws 5 ∷ word ws 6 ∷ m) (append-nil l ∙ e)
    ∙ ap (λ (m : List ℕ). m ++ sound_words bytes) (sym (part-entries 4 3 ws (omega arith)))

pub summed-off : (ws bytes : List ℕ) → take 258 (drop 3 ws) ≡ summed_by false ws bytes
unfolding summed_by protected_of
summed-off ws bytes = sym (join ws 3 4 254 (take 254 (drop 7 ws)) refl)

-- ---- what is told of a packet

-- a count of so many is not refused
pub count-done : (words bytes : List ℕ) → length words ≡ 254 → length bytes ≡ 254 → counted_of words bytes ≡ Ok (changes words (sound_words bytes))
count-done words bytes h k = sym (counted_words words bytes h k)

pub packet-told : (ws bytes : List ℕ) (n : ℕ) → n ≡ cond (correction_of ws) (changes (protected_of ws) (sound_words bytes)) 0
    → ◌≡◌ {A = Packet} (record { correction = correction_of ws; ci = word ws 6 % 16; fixed = n }) (packet_by ws bytes)
unfolding packet_by index_of
packet-told ws bytes n e = ap (λ (m : ℕ). record { correction = correction_of ws; ci = word ws 6 % 16; fixed = m }) e
