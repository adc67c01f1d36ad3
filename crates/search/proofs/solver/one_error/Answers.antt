-- `search::solver::one_error` meets its contract: the place of a lone error is the ratio of the first two sums.
-- Assumes nothing.
use mathlib.Core.Path.{refl, ◌∙◌}
use Rattle.basics.proofs.Laws.Parts.{same-cons}
use Rattle.search.proofs.Laws.Errors.{not-one}
use Rattle.search.proofs.Laws.One.{value-one, place-one}
use Rattle.search.proofs.solver.one_error.Goals as goal

pub returns-in_err-place : goal.returns-in_err-place
returns-in_err-place c =
    let s = c.args.s in
    rw c.from_residual.ensures (not-one s (λ k y hk py hy E. c.in_err-place.ensures.at k hk (c.quotient.ensures ∙ place-one k y s py hy E)))

pub returns : goal.returns
returns c =
    let s = c.args.s in
    record {
      finds = λ k y hk py hy E.
          record { places = same-cons (c.in_ok-place.ensures.at k hk (c.quotient.ensures ∙ place-one k y s py hy E)) refl; values = same-cons (value-one k y s py hy E) refl };
    }
