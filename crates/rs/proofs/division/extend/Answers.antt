-- `rs::division::extend` meets its contract: the first i entries stand again.
-- Assumes nothing.
use mathlib.Core.Path.{refl}
use native.Mathlib.Omega.{arith}
use Rattle.gf256.specs.Field.{◌⊕◌}
use Rattle.rs.proofs.Laws.Packed.{extend-more}
use Rattle.rs.proofs.division.extend.Goals as goal

pub loop-i-preserved : goal.loop-i-preserved
unfolding ◌⊕◌
loop-i-preserved c =
    let l = c.loop-i in
    extend-more c.args.size c.args.row l.i _ c.args.table.now l.table (omega arith) (omega arith) l.invariant refl
