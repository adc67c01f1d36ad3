-- `search::solver::place_of` meets its contract.
-- Assumes nothing.
use Rattle.search.proofs.Laws.Root.{place-found, no-place, zero-placeless}
use Rattle.search.proofs.solver.place_of.Goals as goal

pub returns-in_err-k : goal.returns-in_err-k
returns-in_err-k c = rw c.from_residual.ensures (zero-placeless c.args.x c.in_err-k.ensures)

pub returns-then-k-lt254 : goal.returns-then-k-lt254
returns-then-k-lt254 c = place-found c.args.x _ c.in_ok-k.ensures.1

pub returns-else-k-lt254 : goal.returns-else-k-lt254
returns-else-k-lt254 c = no-place c.args.x c.in_ok-k.k c.in_ok-k.ensures c.if-k-lt254.false
