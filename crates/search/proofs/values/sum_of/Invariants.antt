-- `search::values::sum_of` meets its contract: with what is to come it is the sum of all.
-- Assumes nothing.
use mathlib.Core.Path.{◌≡◌}
use lib.ListN.{drop}
use Rattle.gf256.specs.Field.{◌⊕◌}
use Rattle.search.specs.Values.{sum_of}
use Rattle.search.proofs.values.sum_of.Given as goal

abbrev pub invariant-loop-y : goal.invariant-loop-y
invariant-loop-y l = l.total ⊕ sum_of (drop l.y-index l.fn.v) ≡ sum_of l.fn.v
