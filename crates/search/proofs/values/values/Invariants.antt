-- `search::values::values` meets its contract: from the last place to the first.
-- Assumes nothing.
use mathlib.Core.List.{List}
use Prim.Native.Nat.{ℕ}
use Rattle.search.specs.Values.{exponents}
use Rattle.search.proofs.Laws.Values.{Noted, Valued}
use Rattle.search.proofs.values.values.Given as goal

abbrev pub invariant-loop-i : goal.invariant-loop-i
invariant-loop-i l = (s : List ℕ) → Noted l.fn.marks.count (exponents l.fn.marks.places) s l.firsts → Valued l.fn.marks.count s (exponents l.fn.marks.places) l.v l.i
