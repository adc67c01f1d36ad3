-- `search::values::unscale` meets its contract: a value at a time.
-- Assumes nothing.
use Rattle.search.specs.Values.{exponents, Unscaled}
use Rattle.search.proofs.values.unscale.Given as goal

abbrev pub invariant-loop-i : goal.invariant-loop-i
invariant-loop-i l = Unscaled l.i l.x (exponents l.fn.places) l.initial.v l.v
