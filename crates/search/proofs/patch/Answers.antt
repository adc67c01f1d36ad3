-- `search::patch` meets its contract.
-- Assumes nothing.
use mathlib.Core.Path.{sym, ◌∙◌}
use native.Mathlib.Omega.{arith}
use Rattle.search.proofs.Laws.Patched.{patched-more, patched-end}
use Rattle.search.proofs.patch.Goals as goal

pub loop-e-preserved : goal.loop-e-preserved
loop-e-preserved c =
    let l = c.loop-e in
    patched-more c.args.errors.now l.block l.e-index _ c.e-item.result (omega arith) c.e-item.is c.sum.ensures ∙ l.invariant

pub returns : goal.returns
returns c =
    let l = c.loop-e in
    sym (patched-end c.args.errors.now l.block l.e-index (omega arith)) ∙ l.invariant
