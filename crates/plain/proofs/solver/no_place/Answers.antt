-- `plain::solver::no_place` meets its contract.
-- Assumes nothing.
use Rattle.plain.proofs.Laws.Try.{tried-none}
use Rattle.plain.proofs.solver.no_place.Goals as goal

pub returns : goal.returns
returns c = tried-none c.args.s _ 0 _ c.judged.ensures
