-- `plain::pairs`: `pairs` goes over the first places, `loop-j` over the second. What each has passed was tried without success.
-- Assumes nothing.
use mathlib.Core.List.{[], ◌∷◌}
use Prim.Native.Nat.{◌+◌}
use Rattle.plain.proofs.Laws.Try.{Sought}
use Rattle.plain.proofs.pairs.Given as goal

abbrev pub invariant-loop-j : goal.invariant-loop-j
invariant-loop-j l = Sought 0 (l.i + 1) (l.i ∷ []) l.s l.tried l.j

abbrev pub invariant-pairs : goal.invariant-pairs
invariant-pairs l = Sought 1 0 [] l.s l.tried l.i
