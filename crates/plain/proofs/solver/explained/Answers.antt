-- `plain::solver::explained` meets its contract: a sum at a time.
-- Assumes nothing.
use borrow.Author.Rules.{rules}
use mathlib.Core.Path.{sym, ◌∙◌, ap}
use mir.Syntax.{w8}
use mir.Val.{Fits}
use Prim.Native.Nat.{ℕ}
use native.Mathlib.Omega.{arith}
use lib.ListN.{get_or}
use Rattle.gf256.specs.Field.{◌⊕◌}
use Rattle.plain.proofs.Laws.Judge.{parts_none, parts_more, judged-false, judged-true}
use Rattle.plain.proofs.solver.explained.Goals as goal

pub loop-sum-init : goal.loop-sum-init
loop-sum-init c =
    let f : (i : ℕ) → Fits w8 (get_or c.values-parts.result i 0) = λ i. search rules in
    parts_none c.args.s c.args.errors _ _ _ c.values-parts.result c.values-parts.ensures (λ i. (f i).fits)

pub returns-then-sum : goal.returns-then-sum
returns-then-sum c =
    let l = c.loop-sum in
    judged-false c.args.s c.args.errors (search rules) _ _ _ _ _ _ c.element-x.ensures c.element-y.ensures c.element-z.ensures _ _ _ l.sum-index l.invariant
    (omega arith) (λ e. c.if-sum.true (e ∙ sym (c.sum-in-loop-sum.ensures ∙ ap (◌⊕◌ (get_or l.parts 0 0)) c.sum.ensures)))

pub loop-sum-preserved : goal.loop-sum-preserved
loop-sum-preserved c =
    let l = c.loop-sum in
    parts_more c.args.s c.args.errors (search rules) _ _ _ _ _ _ c.element-x.ensures c.element-y.ensures c.element-z.ensures _ _ _ l.sum-index l.invariant
    _ _ _ (c.if-sum.false ∙ c.sum-in-loop-sum.ensures ∙ ap (◌⊕◌ (get_or l.parts 0 0)) c.sum.ensures) c.product.ensures c.product-in-loop-sum.ensures c.product-in-loop-sum-2.ensures

pub returns : goal.returns
returns c =
    let l = c.loop-sum in
    judged-true c.args.s c.args.errors (search rules) _ _ _ _ _ _ c.element-x.ensures c.element-y.ensures c.element-z.ensures _ _ _ l.sum-index l.invariant
    c.loop-sum-test.false
