-- `lines::show` meets its contract: the page that was made, or that of the refusal.
-- Assumes nothing.
use Rattle.lines.proofs.Laws.Shown.{accepted-shown, refused-shown, shown-sized}
use Rattle.lines.proofs.show.Goals as goal

pub returns-in-Ok : goal.returns-in-Ok
returns-in-Ok c = shown-sized _ _ (accepted-shown _ _ c.in-Ok.ensures)

pub returns-in-Err : goal.returns-in-Err
returns-in-Err c = shown-sized _ _ (refused-shown _ _ _ c.in-Err.ensures c.refused.ensures)
