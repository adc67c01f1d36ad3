-- `search::repair` meets its contract.
-- Assumes nothing.
use mir.Val.{Fits}
use mir.Syntax.{w8}
use lib.ListN.{get_or}
use borrow.Author.Rules.{rules}
use mathlib.Core.Path.{sym, ◌∙◌}
use mathlib.Core.Bool.{true}
use Rattle.std.proofs.lemmas.Result.{err_from_is_err_and}
use Rattle.std.specs.Cmp.Lexicographic.{same_text, other_text}
use Rattle.basics.proofs.Laws.Below.{at-below}
use Rattle.rs.proofs.Laws.Codeword.{divided-refused, divided-passed}
use Rattle.rs.proofs.Laws.Decode.{codeword-answer, size-refused, answered}
use Rattle.search.proofs.Laws.Repair.{nothing_left, something-left}
use Rattle.search.proofs.repair.Goals as goal

pub returns-in_err-rest : goal.returns-in_err-rest
returns-in_err-rest c =
    let l = c.args.block.now in
    let p = err_from_is_err_and c.from_residual.result c.from_residual.ensures.1 in
    rw (p.1, p.2) (size-refused l _ (divided-refused l _ (sym c.remainder.ensures ∙ c.in_err-rest.was)))

pub returns-then-eq : goal.returns-then-eq
returns-then-eq c =
    let l = c.args.block.now in
    let d = divided-passed l _ (sym c.remainder.ensures ∙ c.in_ok-rest.was) in
    let bytes = at-below 256 l (λ i. let b : Fits w8 (get_or l i 0) = search rules in b.fits) in
    answered l l true d.0 (codeword-answer l (nothing_left l _ d.0 bytes d.1 (same_text _ _ (sym c.if-eq.true ∙ c.eq.ensures))))

pub mend-requires : goal.mend-requires
mend-requires c =
    let l = c.args.block.now in
    let d = divided-passed l _ (sym c.remainder.ensures ∙ c.in_ok-rest.was) in
    let bytes = at-below 256 l (λ i. let b : Fits w8 (get_or l i 0) = search rules in b.fits) in
    something-left l _ d.0 bytes d.1 (other_text _ _ (sym c.if-eq.false ∙ c.eq.ensures))

pub returns : goal.returns
returns c =
    let l = c.args.block.now in
    let d = divided-passed l _ (sym c.remainder.ensures ∙ c.in_ok-rest.was) in
    rw (c.require.ensures, c.plain.ensures) (answered l _ c.mend.result d.0 (record { said = c.mend.ensures.0; left = c.mend.ensures.1 }))
