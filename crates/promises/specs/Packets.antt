-- What is promised of a packet: when it is beyond repair, and what its words are once it is written again.
-- Assumes nothing.
use Rattle.std.specs.Prelude.{◌≡◌, List, ◌↔◌, ℕ, Ok}
use Rattle.std.proofs.Math.Option.{Option, some}
use Rattle.refusal.specs.Number.{refusal_plain}
use Rattle.refusal.specs.declared.Reason.TheVariants.{BeyondRepair}
use Rattle.refusal.specs.declared.Refusal.{Refusal}
use Rattle.repair.specs.Reach.{WithinReach}
use Rattle.refusal.specs.Checked.{Checked}
use Rattle.reading.specs.declared.Packet.{Packet}
use Rattle.reading.specs.Reading.{Clean, rewritten_packet}

-- the refusal is 9, BEYOND REPAIR, exactly when no codeword is within reach of the protected words
abbrev pub BeyondExactly : Option Refusal → List ℕ → Type 0
BeyondExactly refusal words = (refusal ≡ some (refusal_plain BeyondRepair)) ↔ (WithinReach words → ⊥)

-- the words were read as the packet p, and its record was written again with its CI and correction bit: the answer, and the words `again`
pub record WrittenAgain (words : List ℕ) (p : Packet) (answer : Checked) (again : List ℕ) : Type 0 where
  -- it is not refused
  pub done : answer ≡ Ok tt
  -- the words are the same exactly when fixed was 0 and the places that aren't read were zero
  pub same : (again ≡ words) ↔ ((p.fixed ≡ 0) × Clean words)
  -- with those places zero they are the rewritten ones
  pub rewritten : Clean words → again ≡ rewritten_packet words
