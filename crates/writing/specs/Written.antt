-- What writing a packet answers and leaves.
-- Assumes nothing.
use Rattle.std.specs.Prelude.{Bool, List, ℕ, length}
use Rattle.refusal.specs.Chain.{left_by}
use Rattle.refusal.specs.Checked.{Checked, checked_of}
use Rattle.writing.specs.Layout.{packet_words}
use Rattle.writing.specs.Writing.{write_refusal, layout_refusal, written_words}

-- of an index and bytes, into room for so many words
unfoldable pub written_of : ℕ → List ℕ → ℕ → Checked
written_of ci bytes room = checked_of (write_refusal ci bytes room)

-- what is left in the lent buffer: the words, or what was there
unfoldable pub write_leaves : Bool → ℕ → List ℕ → List ℕ → List ℕ
write_leaves correction ci bytes old = left_by (write_refusal ci bytes (length old)) (written_words correction ci bytes) old

-- of the bytes as they stand
unfoldable pub layout_of : ℕ → List ℕ → ℕ → Checked
layout_of ci bytes room = checked_of (layout_refusal ci bytes room)

unfoldable pub layout_leaves : Bool → ℕ → List ℕ → List ℕ → List ℕ
layout_leaves correction ci bytes old = left_by (layout_refusal ci bytes (length old)) (packet_words correction ci bytes) old
