-- `plain::first_places` meets its contract: errors are given only where they are right, and those at fewer places were tried before.
-- Assumes nothing.
use native.Mathlib.Omega.{arith}
use Rattle.plain.proofs.Laws.Try.{settles-so, fewer-none, fewer-more, first-of-all}
use borrow.Author.Rules.{rules}
use Rattle.plain.proofs.first_places.Goals as goal

pub returns-in-Some-pairs : goal.returns-in-Some-pairs
returns-in-Some-pairs c =
    let few = fewer-more c.args.s 1 (fewer-more _ 0 (fewer-none _) c.in_default.ensures) c.in_default-singles.ensures in
    (c.in-Some-pairs.ensures.0, first-of-all c.args.s c.in-Some-pairs.errors 2 (search rules) few c.in-Some-pairs.ensures.1)

pub returns : goal.returns
returns c =
    let s = c.args.s in
    let few = fewer-more s 2 (fewer-more _ 1 (fewer-more _ 0 (fewer-none _) c.in_default.ensures) c.in_default-singles.ensures) c.in_default-pairs.ensures in
    settles-so _ _ _ _ s c.triples.result (λ es. first-of-all s es 3 (search rules) few) (λ none m h. fewer-more s 3 few none m (omega arith)) c.triples.ensures
