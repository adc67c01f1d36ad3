-- `search::repair_marked` meets its contract.
-- Assumes nothing.
use mir.Val.{Fits}
use mir.Syntax.{w8}
use lib.ListN.{get_or}
use borrow.Author.Rules.{rules}
use mathlib.Core.Path.{sym, ◌∙◌}
use Rattle.std.proofs.lemmas.Result.{err_from_is_err_and, MatchResult-at_ok}
use Rattle.std.specs.Cmp.Lexicographic.{same_text, other_text}
use Rattle.basics.proofs.Laws.Below.{at-below}
use borrow.Author.Tests.{eqb-true}
use Rattle.refusal.proofs.Laws.Chain.{told, require-passed}
use Rattle.rs.proofs.Laws.Codeword.{divided-refused, divided-passed}
use Rattle.search.proofs.Laws.Marked.{short-words, short-bytes, settled, whole}
use Rattle.search.proofs.Laws.Repair.{nothing_left, something-left}
use Rattle.search.proofs.repair_marked.Goals as goal

pub returns-in_err-require : goal.returns-in_err-require
returns-in_err-require c =
    let p = err_from_is_err_and c.from_residual.result c.from_residual.ensures.1 in
    rw (p.1, p.2) (short-words c.args.words.now c.args.block.now _ (told _ _ _ (rw c.plain.ensures at c.require.ensures) c.in_err-require.was))

pub returns-in_err-rest : goal.returns-in_err-rest
returns-in_err-rest c =
    let l = c.args.block.now in
    let n = eqb-true _ _ (require-passed _ _ _ (told _ _ _ c.require.ensures c.in_ok-require.was)).0 in
    let p = err_from_is_err_and c.from_residual-in_err-rest.result c.from_residual-in_err-rest.ensures.1 in
    rw (p.1, p.2) (short-bytes c.args.words.now l n _ (divided-refused l _ (sym c.remainder.ensures ∙ c.in_err-rest.was)))

pub returns-then-eq : goal.returns-then-eq
returns-then-eq c =
    let l = c.args.block.now in
    let n = eqb-true _ _ (require-passed _ _ _ (told _ _ _ c.require.ensures c.in_ok-require.was)).0 in
    let d = divided-passed l _ (sym c.remainder.ensures ∙ c.in_ok-rest.was) in
    let bytes = at-below 256 l (λ i. let b : Fits w8 (get_or l i 0) = search rules in b.fits) in
    whole c.args.words.now l n (nothing_left l _ d.0 bytes d.1 (same_text _ _ (sym c.if-eq.true ∙ c.eq.ensures)))

pub unwrap-requires : goal.unwrap-requires
unwrap-requires c = c.try_into.ensures.0 (eqb-true _ _ (require-passed _ _ _ (told _ _ _ c.require.ensures c.in_ok-require.was)).0)

pub mend_marked-requires : goal.mend_marked-requires
mend_marked-requires c =
    let l = c.args.block.now in
    let d = divided-passed l _ (sym c.remainder.ensures ∙ c.in_ok-rest.was) in
    let bytes = at-below 256 l (λ i. let b : Fits w8 (get_or l i 0) = search rules in b.fits) in
    something-left l _ d.0 bytes d.1 (other_text _ _ (sym c.if-eq.false ∙ c.eq.ensures))

pub returns : goal.returns
returns c =
    let l = c.args.block.now in
    let n = eqb-true _ _ (require-passed _ _ _ (told _ _ _ c.require.ensures c.in_ok-require.was)).0 in
    let d = divided-passed l _ (sym c.remainder.ensures ∙ c.in_ok-rest.was) in
    let same = MatchResult-at_ok _ _ _ c.unwrap.ensures c.try_into.ensures.1 in
    let M = rw same.same at c.mend_marked.ensures in
    rw (c.require-2.ensures, c.plain-2.ensures)
    (settled c.args.words.now l n d.0 c.mend_marked.result _ (record { said = M.0; left = M.1 }))
