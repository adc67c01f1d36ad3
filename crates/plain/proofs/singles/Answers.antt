-- `plain::singles` meets its contract: what was tried without success is left behind, and the first success is the first of all.
-- Assumes nothing.
use mathlib.Core.List.{[]}
use Rattle.plain.proofs.Laws.Try.{sought-more, sought-all, first_more, failed_try, found_try, none_there, none_found, first_found}
use borrow.Author.Rules.{rules}
use Rattle.plain.proofs.singles.Goals as goal

pub singles-preserved : goal.singles-preserved
singles-preserved c =
    let failed = failed_try c.one_place-tried.result _ c.is_some.ensures c.if-is_some.false in
    sought-more _ _ _ _ _ _ c.singles.invariant _ (search rules) failed (none_there _ _ c.args.s c.one_place-tried.result failed c.one_place-tried.ensures)

pub returns-after-singles : goal.returns-after-singles
returns-after-singles c =
    let l = c.singles in
    none_found _ _ c.args.s l.tried l.invariant.failed (sought-all _ _ _ _ _ _ l.invariant (search rules))

pub returns-then-is_some : goal.returns-then-is_some
returns-then-is_some c =
    first_found _ _ _ c.args.s c.one_place-tried.result (found_try c.one_place-tried.result _ c.is_some.ensures c.if-is_some.true)
    (first_more _ _ _ _ _ [] c.singles.invariant tt) c.one_place-tried.ensures
