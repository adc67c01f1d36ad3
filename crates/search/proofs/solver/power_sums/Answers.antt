-- `search::solver::power_sums` meets its contract: an error at a time.
-- Assumes nothing.
use mathlib.Core.List.{List}
use Prim.Native.Nat.{ℕ}
use native.Mathlib.Omega.{arith}
use lib.ListN.{replicate}
use Rattle.gf256.proofs.Laws.Lent.{zeros-at}
use Rattle.search.proofs.Laws.Held.{summing-none, summing-more, summing-all}
use Rattle.search.proofs.solver.power_sums.Goals as goal

pub loop-e-init : goal.loop-e-init
loop-e-init c = let none : List ℕ = replicate 6 0 in summing-none c.args.errors.now none (zeros-at 6)

pub loop-e-preserved : goal.loop-e-preserved
loop-e-preserved c =
    let l = c.loop-e in
    summing-more c.args.errors.now l.sums c.add_part.new.sums l.e-index _ c.e-item.result (omega arith) l.invariant c.e-item.is c.element.ensures c.add_part.ensures

pub returns : goal.returns
returns c = let l = c.loop-e in summing-all c.args.errors.now l.sums l.e-index (omega arith) l.invariant
