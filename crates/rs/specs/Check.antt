-- The check of a receiver that never repairs: a yes or no on 254 bytes.
-- Assumes nothing.
use Rattle.std.specs.Prelude.{Bool, List, ℕ, Result}
use Rattle.refusal.specs.Checked.{answer_of}
use Rattle.refusal.specs.declared.Refusal.{Refusal}
use Rattle.rs.specs.Codeword.{block_refusal}
use Rattle.rs.specs.Decode.{is_codeword}

-- what the check answers: 21 for other than 254 bytes, then whether they are a codeword
unfoldable pub verdict_of : List ℕ → Result Bool Refusal
verdict_of block = answer_of (block_refusal block) (is_codeword block)
