-- `b40::field::write_words` meets its contract.
-- Assumes nothing.
use mathlib.Core.Path.{◌≡◌, refl, ap, ◌∙◌}
use mathlib.Core.List.{List}
use Prim.Native.Nat.{ℕ, ◌+◌, ◌*◌}
use native.Mathlib.Omega.{arith}
use lib.ListN.{set, length-set}
use borrow.Author.Rules.{rules}
use Rattle.basics.proofs.Laws.Parts.{filled}
use Rattle.b40.specs.Field.{bits_of, part, numbers}
use Rattle.b40.proofs.Laws.Bits.{numbers-length}
use Rattle.b40.proofs.Laws.Places.{three-over, held-words}
use Rattle.b40.proofs.Laws.Window.{placed, placed-all}
use Rattle.b40.proofs.field.write_words.Goals as goal

pub loop-i-preserved : goal.loop-i-preserved
unfolding part
loop-i-preserved c =
    let l = c.loop-i in
    let put = placed 262 10 (bits_of c.args.field.now) c.args.out.now (search rules) in
    let i = 4 * l.i in
    let e1 = put l.out i (i + 1) (8 * (5 * l.i) + 0) _ l.invariant.1 (omega arith) c.word.ensures (omega arith) refl in
    let e2 = put _ (i + 1) (i + 2) (8 * (5 * l.i + 1) + 2) _ e1 (omega arith) c.word-in-loop-i.ensures (omega arith) (omega arith) in
    let e3 = put _ (i + 2) (i + 3) (8 * (5 * l.i + 2) + 4) _ e2 (omega arith) c.word-in-loop-i-2.ensures (omega arith) (omega arith) in
    (simp length-set l.invariant.0, put _ (i + 3) (4 * (l.i + 1)) (8 * (5 * l.i + 3) + 6) _ e3 (omega arith) c.word-in-loop-i-3.ensures (omega arith) (omega arith))

pub returns : goal.returns
unfolding part
returns c =
    let l = c.loop-i in
    let b = bits_of c.args.field.now in
    let old = c.args.out.now in
    let put = placed 262 10 b old (search rules) in
    let i : 4 * l.i ≡ 260 = omega arith in
    let e1 = put l.out 260 261 2600 _ (l.invariant.1 ∙ ap (filled (numbers 262 10 b) old) i) (omega arith) c.word-2.ensures refl refl in
    let e2 = put _ 261 262 2610 _ e1 (omega arith) c.word-3.ensures refl refl in
    ap (λ (x : List ℕ). set (set (set x 0 0x000) 1 0x3FF) 2 0x3FF) (placed-all 262 10 b old (search rules) _ e2)
    ∙ three-over (numbers 262 10 b) 0x000 0x3FF 0x3FF (omega (arith, numbers-length 262 10 b)) ∙ held-words c.args.field.now
