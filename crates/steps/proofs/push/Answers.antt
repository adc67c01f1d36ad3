-- `steps::push` meets its contract.
-- Assumes nothing.
use borrow.Author.Rules.{rules}
use mathlib.Core.Path.{◌≡◌}
use lib.ListN.{length, length-take, length-drop}
use native.Mathlib.Omega.{arith}
use Rattle.steps.proofs.Laws.Parts.{pushed-few, pushed-full}
use Rattle.steps.proofs.push.Goals as goal

pub returns-then-at-lt-DEPTH : goal.returns-then-at-lt-DEPTH
returns-then-at-lt-DEPTH c = let a = c.args in rw c.from-at.ensures (pushed-few a.steps a.count a.step (omega (arith, c.from-at.ensures, c.if-at-lt-DEPTH.true)))

pub returns-else-at-lt-DEPTH : goal.returns-else-at-lt-DEPTH
returns-else-at-lt-DEPTH c =
    let a = c.args in
    let n : length a.steps ≡ 32 = search rules in
    rw c.copy_from_slice.ensures.after (pushed-full a.steps a.count a.step n (omega (arith, c.from-at.ensures, c.if-at-lt-DEPTH.false)))

pub slice_bounds-copy_from_slice-length : goal.slice_bounds-copy_from_slice-length
slice_bounds-copy_from_slice-length c = let n : length c.args.steps ≡ 32 = search rules in simp length-take (omega arith)

pub copy_from_slice-requires : goal.copy_from_slice-requires
copy_from_slice-requires c = let n : length c.args.steps ≡ 32 = search rules in simp (length-take, length-drop) (omega arith)
