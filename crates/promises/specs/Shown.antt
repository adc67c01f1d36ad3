-- The record shown, of the calls.
-- Assumes nothing.
use Rattle.std.specs.Prelude.{◌≡◌, Ok, List, ℕ, length}
use Rattle.refusal.specs.Checked.{Checked}
use Rattle.follower.specs.declared.Follower.{Follower}
use Rattle.promises.specs.Calls.{Looks, LooksInto}

-- this record is shown: asked for it, the follower answers with these bytes, and into room for 248 it leaves them
pub record Shown (f : Follower) (bytes : List ℕ) : Type 0 where
  pub looks : (answer : List ℕ) → Looks f answer → answer ≡ bytes
  pub looks_into : (old : List ℕ) (answer : Checked) (left : List ℕ) → LooksInto f old answer left → length old ≡ 248 → (answer ≡ Ok tt) × (left ≡ bytes)
