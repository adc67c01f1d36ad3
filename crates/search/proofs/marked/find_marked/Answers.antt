-- `search::marked::find_marked` meets its contract.
-- Assumes nothing.
use borrow.Author.Rules.{rules}
use mathlib.Core.Path.{◌≡◌, refl}
use lib.ListN.{length}
use Rattle.search.specs.Values.{exponents}
use Rattle.search.proofs.Laws.Values.{exponent-at}
use Rattle.search.proofs.Laws.Solved.{paired-none, paired-more, solved-paired}
use Rattle.search.proofs.marked.find_marked.Goals as goal

pub loop-i-init : goal.loop-i-init
loop-i-init c = paired-none (exponents c.located-all.result.places) c.values-values.result _ refl

pub loop-i-preserved : goal.loop-i-preserved
loop-i-preserved c =
    let l = c.loop-i in
    let ps = c.located-all.result.places in
    paired-more (exponents ps) c.values-values.result l.errors l.i _ c.loop-i-test.true l.invariant (exponent-at ps l.i _ (search rules)) refl

pub returns : goal.returns
returns c =
    let l = c.loop-i in
    let six : length c.located-all.result.places ≡ 6 = search rules in
    let n : length c.values-values.result ≡ 6 = search rules in
    solved-paired c.args.s c.args.marks c.located-all.result six c.located-all.ensures c.values-values.result n c.values-values.ensures l.errors l.i c.loop-i-test.false l.invariant
