-- `b40::field::fill_bytes` meets its contract.
-- Assumes nothing.
use mathlib.Core.Path.{◌≡◌, refl, ap, ◌∙◌}
use Prim.Native.Nat.{◌+◌, ◌*◌}
use native.Mathlib.Omega.{arith}
use lib.ListN.{length-set}
use borrow.Author.Rules.{rules}
use Rattle.basics.proofs.Laws.Parts.{filled}
use Rattle.b40.specs.Field.{bits_each, numbers}
use Rattle.b40.proofs.Laws.Window.{placed, placed-all}
use Rattle.b40.proofs.field.fill_bytes.Goals as goal

pub loop-i-preserved : goal.loop-i-preserved
loop-i-preserved c =
    let l = c.loop-i in
    let put = placed 328 8 (bits_each 10 c.args.words.now) c.args.out.now (search rules) in
    let i = 5 * l.i in
    let e1 = put l.out i (i + 1) (10 * (4 * l.i) + 0) _ l.invariant.1 (omega arith) c.byte.ensures (omega arith) refl in
    let e2 = put _ (i + 1) (i + 2) (10 * (4 * l.i) + 8) _ e1 (omega arith) c.byte-in-loop-i.ensures (omega arith) (omega arith) in
    let e3 = put _ (i + 2) (i + 3) (10 * (4 * l.i + 1) + 6) _ e2 (omega arith) c.byte-in-loop-i-2.ensures (omega arith) (omega arith) in
    let e4 = put _ (i + 3) (i + 4) (10 * (4 * l.i + 2) + 4) _ e3 (omega arith) c.byte-in-loop-i-3.ensures (omega arith) (omega arith) in
    (simp length-set l.invariant.0, put _ (i + 4) (5 * (l.i + 1)) (10 * (4 * l.i + 3) + 2) _ e4 (omega arith) c.byte-in-loop-i-4.ensures (omega arith) (omega arith))

pub returns : goal.returns
returns c =
    let l = c.loop-i in
    let b = bits_each 10 c.args.words.now in
    let old = c.args.out.now in
    let put = placed 328 8 b old (search rules) in
    let i : 5 * l.i ≡ 325 = omega arith in
    let e1 = put l.out 325 326 2600 _ (l.invariant.1 ∙ ap (filled (numbers 328 8 b) old) i) (omega arith) c.byte-2.ensures refl refl in
    let e2 = put _ 326 327 2608 _ e1 (omega arith) c.byte-3.ensures refl refl in
    placed-all 328 8 b old (search rules) _ (put _ 327 328 2616 _ e2 (omega arith) c.byte-4.ensures refl refl)
