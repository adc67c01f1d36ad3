-- The history of a desk: any edits, undos and sends from its opening, refused ones among them, and the record that they give.
-- Assumes nothing.
use Rattle.std.specs.Prelude.{Bool, List, ℕ, length}
use Rattle.desk.specs.declared.Desk.{Desk}
use Rattle.desk.specs.declared.Turn.{Turn}
use Rattle.desk.specs.Model.{Model, fresh, edit_m, undo_to, send_m}
use Rattle.promises.specs.Calls.{Opens, Edits, Undoes, Sends}

-- an edit or an undo, and what it makes of the desk and of its model
pub data Turns (d : Desk) (m : Model) : Desk → Model → Type 0 where
  edits : {item : ℕ} {bytes : List ℕ} {answer : Turn} → Edits d item bytes answer → Turns d m answer.desk (edit_m item bytes m)
  undoes : {answer : Turn} → Undoes d answer → Turns d m answer.desk (undo_to m.earlier m)

-- the desk that an opening hands back, also beside its refusal, and what its history gives
pub data History : Desk → Model → Type 0 where
  opens : {on : Bool} {answer : Turn} → Opens on answer → History answer.desk fresh
  turns : {d : Desk} {m : Model} {d' : Desk} {m' : Model} → History d m → Turns d m d' m' → History d' m'
  sends : {d : Desk} {m : Model} {old : List ℕ} {answer : Turn} {left : List ℕ} → History d m → Sends d old answer left
      → History answer.desk (send_m (length old) m)
