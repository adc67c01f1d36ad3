-- `plain::solver::judged` meets its contract.
-- Assumes nothing.
use Rattle.plain.proofs.Laws.Try.{judged-settles}
use Rattle.plain.proofs.solver.judged.Goals as goal

pub returns : goal.returns
returns c = rw c.then_some.ensures (judged-settles c.args.s c.args.errors c.explained.result c.explained.ensures)
