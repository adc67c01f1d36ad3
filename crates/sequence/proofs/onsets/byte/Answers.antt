-- `sequence::onsets::byte` meets its contract: the mask leaves the bits of the definition.
-- Assumes nothing.
use native.Mathlib.Omega.{arith}
use Rattle.sequence.proofs.Laws.Sequence.{onsets-masked}
use Rattle.sequence.proofs.onsets.byte.Goals as goal

pub returns : goal.returns
returns c = onsets-masked c.args.old c.args.new (omega arith) (omega arith)
