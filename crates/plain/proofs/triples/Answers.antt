-- `plain::triples` meets its contract: what was tried without success is left behind, and the first success is the first of all.
-- Assumes nothing.
use mathlib.Core.List.{[], ◌∷◌}
use Rattle.plain.proofs.Laws.Try.{sought-more, sought-all, first_more, failed_try, found_try, none_there, none_found, first_found}
use borrow.Author.Rules.{rules}
use Rattle.plain.proofs.triples.Goals as goal

pub loop-k-preserved : goal.loop-k-preserved
loop-k-preserved c =
    let failed = failed_try c.three_places-tried.result _ c.is_some.ensures c.if-is_some.false in
    sought-more _ _ _ _ _ _ c.loop-k.invariant _ (search rules) failed (none_there _ _ c.args.s c.three_places-tried.result failed c.three_places-tried.ensures)

pub loop-j-preserved : goal.loop-j-preserved
loop-j-preserved c =
    let l = c.loop-k in
    sought-more _ _ _ _ _ _ c.loop-j.invariant _ (search rules) l.invariant.failed (sought-all _ _ _ _ _ _ l.invariant (search rules))

pub triples-preserved : goal.triples-preserved
triples-preserved c =
    let l = c.loop-j in
    sought-more _ _ _ _ _ _ c.triples.invariant _ (search rules) l.invariant.failed (sought-all _ _ _ _ _ _ l.invariant (search rules))

pub returns-after-triples : goal.returns-after-triples
returns-after-triples c =
    let l = c.triples in
    none_found _ _ c.args.s l.tried l.invariant.failed (sought-all _ _ _ _ _ _ l.invariant (search rules))

pub returns-then-is_some : goal.returns-then-is_some
returns-then-is_some c =
    first_found _ _ _ c.args.s c.three_places-tried.result (found_try c.three_places-tried.result _ c.is_some.ensures c.if-is_some.true)
    (first_more _ _ _ _ _ (c.loop-j.j ∷ c.loop-k.k ∷ []) c.triples.invariant
    (first_more _ _ _ _ _ (c.loop-k.k ∷ []) c.loop-j.invariant (first_more _ _ _ _ _ [] c.loop-k.invariant tt))) c.three_places-tried.ensures
