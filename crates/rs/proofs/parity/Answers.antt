-- `rs::parity` meets its contract: the six bytes of the packed parity.
-- Assumes nothing.
use mathlib.Core.Path.{ap, ◌∙◌}
use Rattle.rs.specs.Packed.{unpack}
use Rattle.rs.proofs.Laws.Division.{parity-length, parity-bytes}
use Rattle.rs.proofs.Laws.Packed.{unpack-pack}
use Rattle.rs.proofs.parity.Goals as goal

pub returns : goal.returns
returns c = c.unpack.ensures ∙ ap (unpack 6) c.parity.ensures ∙ unpack-pack 6 _ (parity-length _) (parity-bytes _)
