-- `gf256::logs` meets its contract: the rule of the table is one test, computed over its entries.
-- Assumes nothing.
use Rattle.gf256.specs.Field.{◌⊕◌, double}
use Rattle.gf256.proofs.Laws.Double.{doublings, log-right}
use Rattle.gf256.proofs.Laws.Tables.{logs-right}
use Rattle.gf256.proofs.logs.Goals as goal

pub returns : goal.returns
unfolding log-right doublings double ◌⊕◌
returns c = logs-right _ tt
