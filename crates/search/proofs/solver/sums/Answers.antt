-- `search::solver::sums` meets its contract: a sum at a time.
-- Assumes nothing.
use Rattle.rs.proofs.Laws.Polynomial.{summed-more}
use Rattle.search.proofs.Laws.Moment.{six-sums}
use Rattle.search.proofs.solver.sums.Goals as goal

pub loop-j-preserved : goal.loop-j-preserved
loop-j-preserved c =
    let l = c.loop-j in
    summed-more c.args.bytes l.s l.j _ _ l.invariant c.loop-j-test.true c.power.ensures c.value.ensures

pub returns : goal.returns
returns c = let l = c.loop-j in six-sums c.args.bytes l.s l.j c.loop-j-test.false l.invariant
