-- `gf256::powers` meets its contract: the table is 1 and its doubles, computed.
-- Assumes nothing.
use Rattle.gf256.specs.Field.{◌⊕◌, double}
use Rattle.gf256.proofs.Laws.Double.{doublings}
use Rattle.gf256.proofs.Laws.Tables.{powers-right}
use Rattle.gf256.proofs.powers.Goals as goal

pub returns : goal.returns
unfolding doublings double ◌⊕◌
returns c = powers-right
