-- What is promised to a receiver that checks and never repairs: when each answer is given, and what a yes is worth.
-- Assumes nothing.
use Rattle.std.specs.Prelude.{◌≡◌, Bool, true, false, List, ◌↔◌, ℕ, ◌≤◌, length, take, Result, Ok, Err}
use Rattle.refusal.specs.Number.{refusal_plain}
use Rattle.refusal.specs.declared.Reason.TheVariants.{Size}
use Rattle.refusal.specs.declared.Refusal.{Refusal}
use Rattle.rs.specs.Codeword.{Codeword}
use Rattle.rs.specs.Decode.{changes}

-- the answer, by cases: for a codeword; for 254 bytes that are none; for another number of bytes
pub record ThreeAnswers (block : List ℕ) (answer : Result Bool Refusal) : Type 0 where
  pub says_yes : (answer ≡ Ok true) ↔ Codeword block
  pub says_no : (answer ≡ Ok false) ↔ ((length block ≡ 254) × (Codeword block → ⊥))
  pub refuses : (answer ≡ Err (refusal_plain Size)) ↔ (length block ≡ 254 → ⊥)

-- the data of a block, its first 248 bytes
abbrev pub data_of : List ℕ → List ℕ
data_of block = take 248 block

-- one to six bytes were changed in any way: what arrived is any other list of 254 that differs from what was sent in so many places
pub record Changed (sent arrived : List ℕ) : Type 0 where
  pub long : length arrived ≡ 254
  pub at_least : 1 ≤ changes arrived sent
  pub at_most : changes arrived sent ≤ 6
