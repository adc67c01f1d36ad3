-- `search::solver::add_part` meets its contract: a sum at a time.
-- Assumes nothing.
use native.Mathlib.Omega.{arith}
use borrow.Author.Rules.{rules}
use Rattle.search.proofs.Laws.Held.{adding-none, adding-more, adding-all}
use Rattle.search.proofs.solver.add_part.Goals as goal

pub loop-sum-init : goal.loop-sum-init
loop-sum-init c = adding-none c.args.x c.args.value c.args.sums.now (search rules) c.ranges.value.fits

pub loop-sum-preserved : goal.loop-sum-preserved
loop-sum-preserved c =
    let l = c.loop-sum in
    adding-more c.args.x c.args.value c.args.sums.now l.sums l.part l.sum-index _ _ (omega arith) l.invariant c.sum.ensures c.product-part.ensures

pub returns : goal.returns
returns c =
    let l = c.loop-sum in
    adding-all c.args.x c.args.value c.args.sums.now l.sums l.part l.sum-index (omega arith) l.invariant
