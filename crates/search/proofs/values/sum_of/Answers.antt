-- `search::values::sum_of` meets its contract.
-- Assumes nothing.
use borrow.Author.Rules.{rules}
use Rattle.search.proofs.Laws.Values.{summed-none, summed-more, summed-all}
use Rattle.search.proofs.values.sum_of.Goals as goal

pub loop-y-init : goal.loop-y-init
loop-y-init c = summed-none c.args.v

pub loop-y-preserved : goal.loop-y-preserved
loop-y-preserved c = let l = c.loop-y in summed-more c.args.v l.total _ l.y-index (search rules) l.invariant c.sum-total.ensures

pub returns : goal.returns
returns c = let l = c.loop-y in summed-all c.args.v l.total l.y-index (search rules) l.invariant
