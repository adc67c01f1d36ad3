-- `plain::triples`: `triples` goes over the first places, `loop-j` over the second, `loop-k` over the third. What each has passed was tried
-- without success.
-- Assumes nothing.
use mathlib.Core.List.{[], ◌∷◌}
use Prim.Native.Nat.{◌+◌}
use Rattle.plain.proofs.Laws.Try.{Sought}
use Rattle.plain.proofs.triples.Given as goal

abbrev pub invariant-loop-k : goal.invariant-loop-k
invariant-loop-k l = Sought 0 (l.j + 1) (l.i ∷ l.j ∷ []) l.s l.tried l.k

abbrev pub invariant-loop-j : goal.invariant-loop-j
invariant-loop-j l = Sought 1 (l.i + 1) (l.i ∷ []) l.s l.tried l.j

abbrev pub invariant-triples : goal.invariant-triples
invariant-triples l = Sought 2 0 [] l.s l.tried l.i
