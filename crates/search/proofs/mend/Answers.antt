-- `search::mend` meets its contract: what was found leads to the codeword, and where nothing was there is none.
-- Assumes nothing.
use mir.Val.{Fits}
use mir.Syntax.{w8}
use lib.ListN.{get_or}
use borrow.Author.Rules.{rules}
use mathlib.Core.Path.{◌∙◌, subst}
use mathlib.Core.List.{List}
use Prim.Native.Nat.{ℕ}
use native.Mathlib.Omega.{arith}
use Rattle.basics.proofs.Laws.Below.{at-below}
use Rattle.search.specs.Search.{Mends}
use Rattle.search.proofs.Laws.Repair.{mended-answer, last-answer}
use Rattle.search.proofs.mend.Goals as goal

pub returns-then-mend_by : goal.returns-then-mend_by
returns-then-mend_by c =
    let l = c.args.block.now in
    let bytes = at-below 256 l (λ i. let b : Fits w8 (get_or l i 0) = search rules in b.fits) in
    let after = c.mend_by.new.block in
    let A = mended-answer l _ _ bytes c.requires c.sums-s.ensures 1 c.one_error.result _ after (omega arith) c.mend_by.ensures c.if-mend_by.true
    (at-below 256 after (λ i. (c.type_inv.block i).fits)) in
    (A.said, A.left)

pub returns-then-mend_by-2 : goal.returns-then-mend_by-2
returns-then-mend_by-2 c =
    let l = c.args.block.now in
    let bytes = at-below 256 l (λ i. let b : Fits w8 (get_or l i 0) = search rules in b.fits) in
    let after = c.mend_by-2.new.block in
    let M = subst (λ (b : List ℕ). Mends 2 c.sums-s.result c.two_errors.result b c.mend_by-2.result after) (c.mend_by.ensures.kept c.if-mend_by.false) c.mend_by-2.ensures in
    let A = mended-answer l _ _ bytes c.requires c.sums-s.ensures 2 c.two_errors.result _ after (omega arith) M c.if-mend_by-2.true
    (at-below 256 after (λ i. (c.type_inv.block i).fits)) in
    (A.said, A.left)

pub returns : goal.returns
returns c =
    let l = c.args.block.now in
    let bytes = at-below 256 l (λ i. let b : Fits w8 (get_or l i 0) = search rules in b.fits) in
    let after = c.mend_by-3.new.block in
    let kept = c.mend_by-2.ensures.kept c.if-mend_by-2.false ∙ c.mend_by.ensures.kept c.if-mend_by.false in
    let M = subst (λ (b : List ℕ). Mends 3 c.sums-s.result c.three_errors.result b c.mend_by-3.result after) kept c.mend_by-3.ensures in
    let A = last-answer l _ _ bytes c.requires c.sums-s.ensures _ _ _ c.one_error.ensures c.two_errors.ensures c.three_errors.ensures
    (c.mend_by.ensures.wrong c.if-mend_by.false) (c.mend_by-2.ensures.wrong c.if-mend_by-2.false) _ after M (at-below 256 after (λ i. (c.type_inv.block i).fits)) in
    (A.said, A.left)
