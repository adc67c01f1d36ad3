-- `search::values::unscale` meets its contract: a value at a time.
-- Assumes nothing.
use borrow.Author.Rules.{rules}
use mathlib.Core.Path.{◌≡◌, ap, ◌∙◌, subst}
use Prim.Native.Nat.{ℕ}
use native.Mathlib.Omega.{arith}
use lib.ListN.{get_or}
use Rattle.gf256.specs.Field.{◌⊕◌, pow, over}
use Rattle.search.specs.Values.{exponents, Unscaled}
use Rattle.search.proofs.Laws.Values.{exponent-at, unscaled-none, unscaled-more}
use Rattle.search.proofs.values.unscale.Goals as goal

pub loop-i-init : goal.loop-i-init
loop-i-init c = unscaled-none c.args.x (exponents c.args.places) c.args.v.now

pub loop-i-preserved : goal.loop-i-preserved
loop-i-preserved c =
    let l = c.loop-i in
    let ps = c.args.places in
    unscaled-more l.i c.args.x (exponents ps) c.args.v.now l.v _ (search rules) l.invariant
    (c.quotient.ensures
    ∙ ap (over (get_or l.v l.i 0)) (c.sum.ensures ∙ ap (λ (p : ℕ). p ⊕ c.args.x) (c.element.ensures ∙ ap (pow 2) (exponent-at ps l.i _ (search rules)))))

pub returns : goal.returns
returns c =
    let l = c.loop-i in
    let e : l.i ≡ 6 = omega arith in
    subst (λ (n : ℕ). Unscaled n c.args.x (exponents c.args.places) c.args.v.now l.v) e l.invariant
