-- `gf256::sum` meets its contract: the sum is the exclusive or.
-- Assumes nothing.
use mathlib.Core.Path.{refl}
use Rattle.gf256.specs.Field.{◌⊕◌}
use Rattle.gf256.proofs.sum.Goals as goal

pub returns : goal.returns
unfolding ◌⊕◌
returns c = refl
