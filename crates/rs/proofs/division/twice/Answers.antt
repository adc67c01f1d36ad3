-- `rs::division::twice` meets its contract: a bit 7 that is set goes with 0x11D.
-- Assumes nothing.
use Rattle.gf256.specs.Field.{◌⊕◌}
use Rattle.rs.proofs.Laws.Packed.{twice-small, twice-large}
use Rattle.rs.proofs.division.twice.Goals as goal

pub returns-then-a-lt128 : goal.returns-then-a-lt128
returns-then-a-lt128 c = twice-small c.args.a c.if-a-lt128.true

pub returns-else-a-lt128 : goal.returns-else-a-lt128
unfolding ◌⊕◌
returns-else-a-lt128 c = twice-large c.args.a c.ranges.a.fits c.if-a-lt128.false
