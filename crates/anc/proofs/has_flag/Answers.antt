-- `anc::has_flag` meets its contract: the library's test is that of the definition.
-- Assumes nothing.
use Rattle.std.proofs.Common.{take, ◌∙◌}
use Rattle.basics.proofs.Laws.Each.{pointwise-turned}
use Rattle.anc.specs.Words.{flag, has_flag}
use Rattle.anc.proofs.has_flag.Goals as goal

pub returns : goal.returns
unfolding has_flag flag
returns c = c.starts_with.ensures.value ∙ pointwise-turned flag (take 3 c.args.words.now)
