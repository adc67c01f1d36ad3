-- `b40::unpack` meets its contract, by what its checks said of the number that the first 32 bits spell.
-- Assumes nothing.
use mathlib.Core.Path.{◌≡◌, refl, sym, ap, ◌∙◌}
use mathlib.Core.List.{List}
use Prim.Native.Nat.{ℕ}
use borrow.Author.Tests.{eqb-true}
use lib.ListN.{length}
use Rattle.std.proofs.lemmas.Result.{MatchResult-at_ok}
use Rattle.std.specs.Prelude.{Ok, Err}
use Rattle.refusal.specs.Checked.{checked_of}
use Rattle.refusal.specs.declared.Refusal.{Refusal}
use Rattle.refusal.proofs.Laws.Chain.{chained-none, handed-on, went-on, stopped, last-check, err-by, ok-by, kept-by, left-by, check-passed}
use Rattle.b40.specs.Field.{part, words_of}
use Rattle.b40.specs.Unpacking.{unpack_refusal, head_of, unpacked_of, unpack_leaves}
use Rattle.b40.proofs.Laws.Unpacking.{head-tested, head_read}
use Rattle.b40.proofs.unpack.Goals as goal

-- a check that failed is the answer, and leaves what was there
kept : (field old : List ℕ) (w : Refusal) → Err w ≡ checked_of (unpack_refusal field (length old)) → (Err w ≡ unpacked_of field (length old)) × (old ≡ unpack_leaves field old)
unfolding unpacked_of unpack_leaves
kept field old w e = let o = unpack_refusal field (length old) in (err-by o (head_of field) w e, kept-by o (words_of field) old w e)

pub returns-in_err-require : goal.returns-in_err-require
unfolding unpack_refusal
returns-in_err-require c =
    rw (handed-on _ c.from_residual.ensures.1)
    (kept c.args.field.now c.args.out.now _ (stopped _ chained-none c.require.ensures refl c.plain.ensures c.in_err-require.was))

pub returns-in_err-require-2 : goal.returns-in_err-require-2
unfolding unpack_refusal
returns-in_err-require-2 c =
    let f = c.args.field.now in
    let n = eqb-true (length f) 328 (check-passed _ _ (sym c.in_ok-require.was ∙ c.require.ensures)) in
    let size = went-on chained-none c.require.ensures refl c.plain.ensures c.in_ok-require.was in
    let first = c.first-first.ensures ∙ ap (λ (l : List ℕ). part l 0 32) (MatchResult-at_ok _ _ _ c.unwrap-field.ensures c.try_into.ensures.1).same in
    let test = head-tested f c.first-first.result n first _ c.is_place.ensures in
    rw (handed-on _ c.from_residual-in_err-require-2.ensures.1)
    (kept f c.args.out.now _ (stopped _ size c.require-2.ensures test c.plain-2.ensures c.in_err-require-2.was))

pub returns-in_err-require-3 : goal.returns-in_err-require-3
unfolding unpack_refusal
returns-in_err-require-3 c =
    let f = c.args.field.now in
    let n = eqb-true (length f) 328 (check-passed _ _ (sym c.in_ok-require.was ∙ c.require.ensures)) in
    let size = went-on chained-none c.require.ensures refl c.plain.ensures c.in_ok-require.was in
    let first = c.first-first.ensures ∙ ap (λ (l : List ℕ). part l 0 32) (MatchResult-at_ok _ _ _ c.unwrap-field.ensures c.try_into.ensures.1).same in
    let test = head-tested f c.first-first.result n first _ c.is_place.ensures in
    let head = went-on size c.require-2.ensures test c.plain-2.ensures c.in_ok-require-2.was in
    rw (handed-on _ c.from_residual-in_err-require-3.ensures.1)
    (kept f c.args.out.now _ (stopped _ head c.require-3.ensures refl c.plain-3.ensures c.in_err-require-3.was))

pub returns : goal.returns
unfolding unpacked_of unpack_leaves unpack_refusal
returns c =
    let f = c.args.field.now in
    let whole = MatchResult-at_ok _ _ _ c.unwrap-field.ensures c.try_into.ensures.1 in
    let old = c.args.out.now in
    let n = eqb-true (length f) 328 (check-passed _ _ (sym c.in_ok-require.was ∙ c.require.ensures)) in
    let size = went-on chained-none c.require.ensures refl c.plain.ensures c.in_ok-require.was in
    let first = c.first-first.ensures ∙ ap (λ (l : List ℕ). part l 0 32) (MatchResult-at_ok _ _ _ c.unwrap-field.ensures c.try_into.ensures.1).same in
    let test = head-tested f c.first-first.result n first _ c.is_place.ensures in
    let head = went-on size c.require-2.ensures test c.plain-2.ensures c.in_ok-require-2.was in
    let all = sym c.in_ok-require-3.was ∙ last-check head c.require-3.ensures refl c.plain-3.ensures in
    let o = unpack_refusal f (length old) in
    (ap Ok (head_read f c.first-first.result n first) ∙ ok-by o (head_of f) all, (c.write_words.ensures ∙ ap words_of whole.same) ∙ left-by o (words_of f) old all)
