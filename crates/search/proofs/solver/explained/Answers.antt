-- `search::solver::explained` meets its contract.
-- Assumes nothing.
use borrow.Author.Rules.{rules}
use Rattle.search.proofs.Laws.Held.{held}
use Rattle.search.proofs.solver.explained.Goals as goal

pub returns : goal.returns
returns c = held c.args.errors.now c.power_sums.result c.args.s (search rules) (search rules) c.power_sums.ensures _ c.eq.ensures
