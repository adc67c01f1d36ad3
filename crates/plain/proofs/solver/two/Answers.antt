-- `plain::solver::two` meets its contract.
-- Assumes nothing.
use mathlib.Core.Path.{◌∙◌, ap₂}
use mir.Val.{Fits}
use mir.Syntax.{w8}
use Rattle.gf256.specs.Field.{over}
use Rattle.plain.proofs.Laws.Solve.{two-solved}
use borrow.Author.Rules.{rules}
use Rattle.plain.proofs.solver.two.Goals as goal

pub returns : goal.returns
returns c =
    let y : Fits w8 c.args.y = search rules in
    let z : Fits w8 c.args.z = search rules in
    two-solved _ _ _ _ y.fits z.fits c.requires _ _
    (c.quotient-c.ensures ∙ ap₂ over c.killed.ensures c.sum.ensures) c.sum-2.ensures
