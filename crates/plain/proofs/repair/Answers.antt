-- `plain::repair` meets its contract: what was found leads to the codeword, and where nothing was there is none.
-- Assumes nothing.
use mir.Val.{Fits}
use mir.Syntax.{w8}
use lib.ListN.{get_or}
use borrow.Author.Rules.{rules}
use mathlib.Core.Bool.{true, false}
use Rattle.std.proofs.lemmas.Result.{err_from_is_err_and}
use Rattle.basics.proofs.Laws.Below.{at-below}
use Rattle.refusal.proofs.Laws.Chain.{told}
use Rattle.rs.specs.Codeword.{block_refusal}
use Rattle.rs.proofs.Laws.Codeword.{passes-block}
use Rattle.rs.proofs.Laws.Decode.{size-refused, answered}
use Rattle.plain.proofs.Laws.Repair.{found-answer, lost-answer}
use Rattle.plain.proofs.repair.Goals as goal

pub returns-in_err-require : goal.returns-in_err-require
unfolding block_refusal
returns-in_err-require c =
    let l = c.args.block.now in
    let p = err_from_is_err_and c.from_residual.result c.from_residual.ensures.1 in
    rw (p.1, p.2) (size-refused l _ (told (block_refusal l) _ _ (rw c.plain.ensures at c.require.ensures) c.in_err-require.was))

pub returns-in_default : goal.returns-in_default
unfolding block_refusal
returns-in_default c =
    let l = c.args.block.now in
    let long = passes-block l (told (block_refusal l) _ _ (rw c.plain.ensures at c.require.ensures) c.in_ok-require.was) in
    rw c.plain-in_default.ensures
    (answered l l false long
    (lost-answer l _ long (at-below 256 l (λ i. let b : Fits w8 (get_or l i 0) = search rules in b.fits)) c.sums.ensures c.in_default.ensures))

pub returns : goal.returns
unfolding block_refusal
returns c =
    let l = c.args.block.now in
    let after = c.mend.new.block in
    let long = passes-block l (told (block_refusal l) _ _ (rw c.plain.ensures at c.require.ensures) c.in_ok-require.was) in
    answered l after true long
    (found-answer l _ long (at-below 256 l (λ i. let b : Fits w8 (get_or l i 0) = search rules in b.fits)) c.sums.ensures c.in-Some.errors after (search rules) c.in-Some.ensures.0
    (at-below 256 after (λ i. (c.type_inv.block i).fits)) c.mend.ensures)
