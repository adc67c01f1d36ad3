-- What repair alone answers and leaves, and what each of its answers says.
-- Assumes nothing.
use Rattle.std.specs.Prelude.{List, ℕ, length, Result, Ok, Err}
use Rattle.std.proofs.Math.Option.{Option, none, some}
use Rattle.refusal.specs.Chain.{left_by}
use Rattle.refusal.specs.Checked.{answer_of}
use Rattle.refusal.specs.declared.Refusal.{Refusal}
use Rattle.anc.specs.Words.{sound_words}
use Rattle.rs.specs.Decode.{changes}
use Rattle.repair.specs.Protected.{rewritten, fixed_of, count_refusal, repair_refusal}

-- ---- what an answer says, for every case of it; its refusal is `refusal_in`

-- how many words were fixed
abbrev pub fixed_in : Result ℕ Refusal → Option ℕ
fixed_in (Ok n) = some n
fixed_in (Err why) = none

-- ---- the answer: the refusal where there is one, else how many words were fixed

-- of words, into room for so many
unfoldable pub repaired_of : List ℕ → ℕ → Result ℕ Refusal
repaired_of words room = answer_of (repair_refusal words room) (fixed_of words)

-- of words against bytes: how many words differ, in all ten bits, from the sound words of the bytes
unfoldable pub counted_of : List ℕ → List ℕ → Result ℕ Refusal
counted_of words bytes = answer_of (count_refusal words bytes) (changes words (sound_words bytes))

-- ---- what is left in the lent buffer

-- the rewritten words, or what was there
unfoldable pub repair_leaves : List ℕ → List ℕ → List ℕ
repair_leaves words old = left_by (repair_refusal words (length old)) (rewritten words) old
