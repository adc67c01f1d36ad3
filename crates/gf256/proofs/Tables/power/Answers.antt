-- `gf256::Tables::power` meets its contract: its wheel is right, and the powers come around.
-- Assumes nothing.
use mathlib.Core.Path.{◌∙◌}
use Prim.Native.Nat.{◌%◌}
use native.Mathlib.Omega.{arith}
use Rattle.gf256.proofs.Laws.Product.{pow-mod}
use Rattle.gf256.proofs.Tables.power.Goals as goal

pub returns : goal.returns
returns c = let k = c.args.k in c.args.self.now.wheel_right.at (k % 255) (omega arith) ∙ pow-mod k
