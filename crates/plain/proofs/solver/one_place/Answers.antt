-- `plain::solver::one_place` meets its contract.
-- Assumes nothing.
use Rattle.plain.proofs.Laws.Try.{tried-one}
use Rattle.plain.proofs.solver.one_place.Goals as goal

pub returns : goal.returns
returns c = tried-one _ _ _ _ _ c.judged.ensures
