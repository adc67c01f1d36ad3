-- `gf256::Tables::quotient` meets its contract: its tables are right.
-- Assumes nothing.
use mathlib.Core.Path.{◌∙◌}
use Rattle.gf256.proofs.Laws.Lent.{quotient-right}
use Rattle.gf256.proofs.Tables.quotient.Goals as goal

pub returns : goal.returns
returns c =
    let t = c.args.self.now in
    c.quotient_in.ensures ∙ quotient-right _ _ _ _ t.wheel_right t.logs_right c.ranges.a.fits c.ranges.b.fits
