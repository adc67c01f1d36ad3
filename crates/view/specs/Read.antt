-- What reading a record from bytes answers: the view of what passes the checks, or what they refuse it for.
-- Assumes nothing.
use Rattle.std.specs.Prelude.{List, ℕ, Result}
use Rattle.refusal.specs.Checked.{answer_of}
use Rattle.refusal.specs.declared.Refusal.{Refusal}
use Rattle.record.specs.Record.{record_refusal}
use Rattle.view.specs.View.{view_of}
use Rattle.view.specs.declared.RecordView.{RecordView}

unfoldable pub record_read_of : List ℕ → Result RecordView Refusal
record_read_of bytes = answer_of (record_refusal bytes) (view_of bytes)
