-- What is promised of a send at any desk value, also one that no opening leads to.
-- Assumes nothing.
use Rattle.std.specs.Prelude.{◌≡◌, Ok, Err, true, List, ℕ, ◌+◌, ◌%◌, length}
use Rattle.refusal.specs.Number.{refusal_plain}
use Rattle.refusal.specs.declared.Reason.TheVariants.{Room}
use Rattle.writing.specs.Layout.{packet_words}
use Rattle.desk.specs.declared.Desk.{Desk}
use Rattle.desk.specs.declared.Turn.{Turn}

-- into room for 262 words it is done and writes the packet of the bytes as they stand, with correction on and CI modulo 16, from which it counts on;
-- into any other room it is refused with 23 and leaves what was there
pub record SentAsTheyStand (d : Desk) (old : List ℕ) (answer : Turn) (left : List ℕ) : Type 0 where
  pub done : length old ≡ 262 → answer.checked ≡ Ok tt
  pub words : length old ≡ 262 → left ≡ packet_words true (d.ci % 16) d.bytes
  pub index : length old ≡ 262 → answer.desk.ci ≡ (d.ci % 16 + 1) % 16
  pub no_room : (length old ≡ 262 → ⊥) → answer.checked ≡ Err (refusal_plain Room)
  pub kept : (length old ≡ 262 → ⊥) → left ≡ old
