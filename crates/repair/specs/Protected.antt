-- The 254 protected words: the words they are rewritten as, how many of them change, and what repair alone is refused for.
-- Assumes nothing.
use Rattle.std.specs.Prelude.{Bool, List, ℕ, eqb, length}
use Rattle.std.proofs.Math.Option.{Option}
use Rattle.anc.specs.Words.{narrow, low_bytes, sound_words}
use Rattle.refusal.specs.Chain.{require, passed}
use Rattle.refusal.specs.Number.{refusal_plain}
use Rattle.refusal.specs.declared.Reason.TheVariants.{Size, Wide, BeyondRepair, Room}
use Rattle.refusal.specs.declared.Refusal.{Refusal}
use Rattle.rs.specs.Decode.{changes}
use Rattle.rs.specs.Marked.{repairable_marked, repaired_marked}
use Rattle.search.specs.Marked.{confessed}

-- is there a codeword that they are read as, by either rule? a word that is not sound marks its byte
unfoldable pub repairable : List ℕ → Bool
repairable words = repairable_marked (confessed words) (low_bytes words)

-- that codeword, or where there is none the low bytes
unfoldable pub repaired : List ℕ → List ℕ
repaired words = repaired_marked (confessed words) (low_bytes words)

-- its words
unfoldable pub rewritten : List ℕ → List ℕ
rewritten words = sound_words (repaired words)

-- how many words differ, in all ten bits, from those they are rewritten as
unfoldable pub fixed_of : List ℕ → ℕ
fixed_of words = changes words (rewritten words)

-- 21: 254 words against 254 bytes
unfoldable pub count_refusal : List ℕ → List ℕ → Option Refusal
count_refusal words bytes =
    require (eqb (length words) 254) (refusal_plain Size) (require (eqb (length bytes) 254) (refusal_plain Size) passed)

-- repair of words into room for so many: 21, 2, 9, 23
unfoldable pub repair_refusal : List ℕ → ℕ → Option Refusal
repair_refusal words room =
    require (eqb (length words) 254) (refusal_plain Size)
    (require (narrow words) (refusal_plain Wide)
    (require (repairable words) (refusal_plain BeyondRepair) (require (eqb room 254) (refusal_plain Room) passed)))
