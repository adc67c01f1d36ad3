-- `gf256::wheel` meets its contract: the powers are copied twice over zeros.
-- Assumes nothing.
use Rattle.gf256.proofs.Laws.Lent.{copied-twice}
use Rattle.gf256.proofs.wheel.Goals as goal

pub returns : goal.returns
returns c = rw (c.copy_from_slice.ensures.after, c.copy_from_slice-2.ensures.after) (copied-twice _ c.powers-table.ensures)
