-- `search::patch` meets its contract: what the errors to come make of the block stays the same.
-- Assumes nothing.
use mathlib.Core.Path.{◌≡◌}
use lib.ListN.{drop}
use Rattle.search.specs.Search.{patched_by}
use Rattle.search.proofs.patch.Given as goal

abbrev pub invariant-loop-e : goal.invariant-loop-e
invariant-loop-e l = patched_by (drop l.e-index l.errors) l.block ≡ patched_by l.errors l.initial.block
