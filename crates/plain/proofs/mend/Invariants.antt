-- `plain::mend` meets its contract: what the errors to come make of the block stays the same.
-- Assumes nothing.
use mathlib.Core.Path.{◌≡◌}
use lib.ListN.{drop}
use Rattle.plain.specs.Plain.{mended}
use Rattle.plain.proofs.mend.Given as goal

abbrev pub invariant-loop-e : goal.invariant-loop-e
invariant-loop-e l = mended l.block (drop l.e-index l.fn.errors) ≡ mended l.initial.block l.fn.errors
