-- Runs of words: do they begin a packet, is each of ten bits, the bytes that they carry, and bytes as sound words.
-- Assumes nothing.
use Rattle.std.specs.Prelude.{ℕ, ◌%◌, Bool, List, [], ◌∷◌, map, length, take, ◌==◌, nat_le}
use Rattle.std.proofs.Math.Option.{Option}
use Rattle.basics.specs.Each.{all, same}
use Rattle.refusal.specs.Chain.{require, passed, left_by}
use Rattle.refusal.specs.Number.{refusal_plain}
use Rattle.refusal.specs.declared.Reason.TheVariants.{Room}
use Rattle.refusal.specs.declared.Refusal.{Refusal}
use Rattle.anc.specs.Word.{word_of}

-- the three words in front of a packet
unfoldable pub flag : List ℕ
flag = 0x000 ∷ 0x3FF ∷ 0x3FF ∷ []

-- do the words begin with them?
unfoldable pub has_flag : List ℕ → Bool
has_flag words = same (take 3 words) flag

-- is no word over 1,023?
unfoldable pub narrow : List ℕ → Bool
narrow words = all (λ w. nat_le w 1023) words

-- the low bytes of the words
unfoldable pub low_bytes : List ℕ → List ℕ
low_bytes words = map (λ w. w % 256) words

-- bytes as sound words
unfoldable pub sound_words : List ℕ → List ℕ
sound_words bytes = map word_of bytes

-- ---- a lent buffer that is filled

-- 23: the new entries, into room for so many
unfoldable pub fill_refusal : List ℕ → ℕ → Option Refusal
fill_refusal new room = require (length new == room) (refusal_plain Room) passed

-- the new entries, or what was there
unfoldable pub fill_leaves : List ℕ → List ℕ → List ℕ
fill_leaves new old = left_by (fill_refusal new (length old)) new old
