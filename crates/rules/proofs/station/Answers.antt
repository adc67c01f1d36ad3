-- `rules::station` meets its contract.
-- Assumes nothing.
use mathlib.Core.Path.{◌∙◌}
use Rattle.std.proofs.Common.{rules, tests}
use Rattle.std.proofs.lemmas.Iterator.{YieldsList-from_slice}
use Rattle.std.proofs.lemmas.Iterator.Search.{all_from_yields_List}
use Rattle.rules.specs.Rules.{station_byte, station_rule}
use Rattle.basics.proofs.Laws.Each.{list_all-all}
use Rattle.rules.proofs.station.Goals as goal

pub returns : goal.returns
unfolding station_rule
returns c =
    let bytes = c.args.bytes.now in
    all_from_yields_List station_byte _ _ _ c.all.ensures.ran (YieldsList-from_slice bytes cc) (λ x b q k. search (rules, tests))
    ∙ list_all-all station_byte bytes
