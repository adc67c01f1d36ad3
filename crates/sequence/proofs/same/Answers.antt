-- `sequence::same` meets its contract: the library's test of two slices is that of the definition.
-- Assumes nothing.
use mathlib.Core.Path.{◌∙◌}
use Rattle.basics.proofs.Laws.Each.{pointwise-same}
use Rattle.sequence.proofs.same.Goals as goal

pub returns : goal.returns
returns c = c.eq.ensures ∙ pointwise-same c.args.a.now c.args.b.now
