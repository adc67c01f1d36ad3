-- Repair of 254 bytes with the words that carried them: a word that is not sound confesses, and marks its byte.
-- Assumes nothing.
use Rattle.std.specs.Prelude.{Bool, not, List, map, ℕ, eqb, length}
use Rattle.std.proofs.Math.Option.{Option}
use Rattle.anc.specs.Word.{is_sound}
use Rattle.refusal.specs.Chain.{require, next, passed, left_by}
use Rattle.refusal.specs.Number.{refusal_plain}
use Rattle.refusal.specs.declared.Reason.TheVariants.{Size, BeyondRepair}
use Rattle.refusal.specs.declared.Refusal.{Refusal}
use Rattle.rs.specs.Codeword.{block_refusal}
use Rattle.rs.specs.Marked.{repairable_marked, repaired_marked}

-- the marks of words: those that are not sound
unfoldable pub confessed : List ℕ → List Bool
confessed words = map (λ w. not (is_sound w)) words

-- 21 for other than 254 words, and for other than 254 bytes; 9 where neither rule finds a codeword
unfoldable pub marked_refusal : List ℕ → List ℕ → Option Refusal
marked_refusal words block =
    require (eqb (length words) 254) (refusal_plain Size)
    (next (block_refusal block) (require (repairable_marked (confessed words) block) (refusal_plain BeyondRepair) passed))

-- what is left: the codeword, or what was there
unfoldable pub marked_leaves : List ℕ → List ℕ → List ℕ
marked_leaves words block = left_by (marked_refusal words block) (repaired_marked (confessed words) block) block
