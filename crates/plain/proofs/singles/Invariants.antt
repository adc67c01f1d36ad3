-- `plain::singles` meets its contract.
-- Assumes nothing.
use mathlib.Core.List.{[]}
use Rattle.plain.proofs.Laws.Try.{Sought}
use Rattle.plain.proofs.singles.Given as goal

abbrev pub invariant-singles : goal.invariant-singles
invariant-singles l = Sought 0 0 [] l.s l.tried l.i
