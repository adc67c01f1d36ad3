-- What is promised of the private area as item 13: what an edit of it answers and leaves, and its line on the printed page.
-- Assumes nothing.
use Rattle.std.specs.Prelude.{◌≡◌, Ok, List, ◌++◌, ℕ, length, take}
use Rattle.record.specs.Record.{private_part}
use Rattle.steps.specs.declared.Step.{Step}
use Rattle.desk.specs.declared.Desk.{Desk}
use Rattle.desk.specs.declared.Turn.{Turn}
use Rattle.desk.specs.Desk.{latest}
use Rattle.lines.specs.Shown.{lines_in}

-- the step of an edit of item 13: all the bytes that were there
abbrev pub private_step : List ℕ → Step
private_step old = record { item = 13; old = old }

-- the edit is done: the private area is the bytes that were given, what stands before it is what it was, and the latest step holds the private area
-- as it was, 141 bytes
pub record PrivateStored (d : Desk) (bytes : List ℕ) (t : Turn) : Type 0 where
  pub done : t.checked ≡ Ok tt
  pub stored : private_part t.desk.bytes ≡ bytes
  pub before : take 107 t.desk.bytes ≡ take 107 d.bytes
  pub step : latest t.desk ≡ private_step (private_part d.bytes)
  pub kept : length (private_part d.bytes) ≡ 141

-- a text of fifteen lines, of which this is the last
pub record Fifteen (text line : List ℕ) : Type 0 where
  pub first : List ℕ
  pub whole : text ≡ first ++ line
  pub fourteen : lines_in first ≡ 14
  pub one : lines_in line ≡ 1
