-- `search::values::values` meets its contract: from the last place to the first.
-- Assumes nothing.
use borrow.Author.Rules.{rules}
use mathlib.Core.Path.{◌≡◌, sym, ap, ◌∙◌, subst}
use Prim.Native.Nat.{ℕ, suc, ◌-◌}
use native.Mathlib.Omega.{arith}
use lib.ListN.{length}
use Rattle.gf256.specs.Field.{pow}
use Rattle.search.specs.Values.{exponents}
use Rattle.search.proofs.Laws.Values.{exponents-long, exponent-at, unscaled-all, Valued, valued-none, valued-more, valued-all}
use Rattle.search.proofs.values.values.Goals as goal

pub loop-i-init : goal.loop-i-init
loop-i-init c =
    let n : length c.args.marks.places ≡ 6 = search rules in
    λ s F. valued-none c.args.marks.count s (exponents c.args.marks.places) (exponents-long c.args.marks.places ∙ n)

pub loop-i-preserved : goal.loop-i-preserved
loop-i-preserved c =
    let l = c.loop-i in
    let ps = c.args.marks.places in
    let m : ℕ = l.i - 1 in
    let n : length c.args.marks.places ≡ 6 = search rules in
    let v : length c.loop-i.v ≡ 6 = search rules in
    let six : length (exponents ps) ≡ 6 = exponents-long ps ∙ n in
    let e : l.i ≡ suc m = omega arith in
    λ s F.
    valued-more c.args.marks.count s (exponents ps) l.v c.unscale.new.v m _ (omega arith) (omega arith) (c.element.ensures ∙ ap (pow 2) (exponent-at ps m _ (omega arith)))
    (unscaled-all 6 _ (exponents ps) l.v c.unscale.new.v (v ∙ sym six) (omega arith) c.unscale.ensures)
    (subst (Valued c.args.marks.count s (exponents ps) l.v) e (l.invariant s F)) c.kill_places.result.firsts _ _ F c.sum_of.ensures c.sum.ensures

pub returns : goal.returns
returns c =
    let l = c.loop-i in
    let ps = c.args.marks.places in
    let n : length c.args.marks.places ≡ 6 = search rules in
    let six : length (exponents ps) ≡ 6 = exponents-long ps ∙ n in
    let z : l.i ≡ 0 = omega arith in
    valued-all c.args.marks.count c.args.s (exponents ps) l.v l.i c.args.marks.few (omega arith) z (l.invariant c.args.s c.kill_places.ensures.firsts)
