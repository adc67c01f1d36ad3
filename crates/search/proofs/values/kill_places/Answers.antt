-- `search::values::kill_places` meets its contract: a place at a time.
-- Assumes nothing.
use borrow.Author.Rules.{rules}
use mathlib.Core.Path.{◌≡◌, ap, ◌∙◌}
use lib.ListN.{length}
use Rattle.gf256.specs.Field.{pow}
use Rattle.search.specs.Values.{exponents}
use Rattle.search.proofs.Laws.Values.{exponents-long, exponent-at, killing-none, killing-more, killing-all}
use Rattle.search.proofs.values.kill_places.Goals as goal

pub loop-i-init : goal.loop-i-init
loop-i-init c = killing-none c.args.marks.count (exponents c.args.marks.places) c.args.s _ (search rules)

pub loop-i-preserved : goal.loop-i-preserved
loop-i-preserved c =
    let l = c.loop-i in
    let ps = c.args.marks.places in
    let n : length c.args.marks.places ≡ 6 = search rules in
    killing-more c.args.marks.count (exponents ps) c.args.s l.firsts l.left _ l.i _ l.invariant c.loop-i-test.true c.args.marks.few (exponents-long ps ∙ n)
    (c.element.ensures ∙ ap (pow 2) (exponent-at ps l.i _ (search rules))) c.kill.ensures

pub returns : goal.returns
returns c = let l = c.loop-i in killing-all c.args.marks.count (exponents c.args.marks.places) c.args.s l.firsts l.left l.i l.invariant c.loop-i-test.false
