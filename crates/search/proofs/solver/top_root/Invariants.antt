-- `search::solver::top_root` meets its contract: no place above k is a root.
-- Assumes nothing.
use mathlib.Core.Path.{◌≡◌}
use Prim.Native.Nat.{ℕ, ◌≤◌, ◌<◌}
use Rattle.search.proofs.Laws.Root.{scanned}
use Rattle.search.proofs.solver.top_root.Given as goal

abbrev pub invariant-loop-k : goal.invariant-loop-k
invariant-loop-k l = (j : ℕ) → l.k ≤ j → j < 254 → scanned l.la l.lc j ≡ l.fn.l.b → ⊥
