-- `plain::solver::value` meets its contract: a byte at a time.
-- Assumes nothing.
use mathlib.Core.Path.{ap, ◌∙◌}
use Prim.Native.Nat.{ℕ}
use native.Mathlib.Omega.{arith}
use lib.ListN.{get_or}
use Rattle.gf256.specs.Field.{◌⊕◌}
use Rattle.rs.proofs.Laws.Polynomial.{value-none, value-more}
use Rattle.plain.proofs.solver.value.Goals as goal

pub loop-byte-init : goal.loop-byte-init
loop-byte-init c = value-none c.args.x c.args.block.now

pub loop-byte-preserved : goal.loop-byte-preserved
loop-byte-preserved c =
    let l = c.loop-byte in
    c.sum-v.ensures ∙ ap (λ (p : ℕ). p ⊕ get_or c.args.block.now l.byte-index 0) c.product.ensures
    ∙ value-more c.args.x c.args.block.now l.v l.byte-index (omega arith) (c.type_inv.block l.byte-index).fits l.invariant
