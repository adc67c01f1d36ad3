-- `rs::division::multiples` meets its contract: after k turns the multiples below 2^k stand in the table.
-- Assumes nothing.
use borrow.Author.Rules.{rules}
use Prim.Native.Nat.{ℕ}
use lib.ListN.{get_or}
use mir.Syntax.{w8}
use mir.Val.{Fits}
use Rattle.basics.proofs.Laws.Below.{at-below}
use Rattle.rs.proofs.Laws.Packed.{shifted, fill-size, fill_none, fill_more, fill-all}
use Rattle.rs.proofs.division.multiples.Goals as goal

pub loop-k-init : goal.loop-k-init
loop-k-init c =
    let f : (i : ℕ) → Fits w8 (get_or c.args.g i 0) = λ i. search rules in
    fill_none c.args.g _ (at-below 256 c.args.g (λ i. (f i).fits)) (search rules)

pub extend-requires : goal.extend-requires
extend-requires c = fill-size c.loop-k.k c.loop-k-test.true

pub loop-k-preserved : goal.loop-k-preserved
loop-k-preserved c =
    let l = c.loop-k in
    fill_more l.k _ c.args.g l.row _ l.table _ c.loop-k-test.true l.invariant c.pack.ensures _ (shifted l.k c.loop-k-test.true) c.extend.ensures c.double.ensures

pub returns : goal.returns
returns c = fill-all c.loop-k.k c.args.g c.loop-k.row c.loop-k.table c.loop-k-test.false c.loop-k.invariant
