-- `gf256::Tables::product` meets its contract: its tables are right.
-- Assumes nothing.
use mathlib.Core.Path.{◌∙◌}
use Rattle.gf256.proofs.Laws.Lent.{product-right}
use Rattle.gf256.proofs.Tables.product.Goals as goal

pub returns : goal.returns
returns c =
    let t = c.args.self.now in
    c.product_in.ensures ∙ product-right _ _ _ _ t.wheel_right t.logs_right c.ranges.a.fits c.ranges.b.fits
