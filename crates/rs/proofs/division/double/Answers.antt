-- `rs::division::double` meets its contract: a byte at a time.
-- Assumes nothing.
use mathlib.Core.Path.{◌∙◌}
use native.Mathlib.Omega.{arith}
use Rattle.rs.proofs.Laws.Polynomial.{scaled-none, scaled-more, scaled-all}
use Rattle.rs.proofs.division.double.Goals as goal

pub loop-a-init : goal.loop-a-init
loop-a-init c = scaled-none 2 c.args.g.now

pub loop-a-preserved : goal.loop-a-preserved
loop-a-preserved c = let l = c.loop-a in scaled-more 2 l.a-index _ c.args.g.now l.g (omega arith) l.invariant c.twice.ensures

pub returns : goal.returns
returns c = let l = c.loop-a in l.invariant ∙ scaled-all 2 l.a-index c.args.g.now (omega arith)
