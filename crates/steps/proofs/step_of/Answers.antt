-- `steps::step_of` meets its contract.
-- Assumes nothing.
use mathlib.Core.Path.{sym, ap, ◌∙◌}
use Rattle.refusal.proofs.Laws.Chain.{check-passed}
use native.Mathlib.Omega.{arith}
use lib.ListN.{length}
use Rattle.items.proofs.Laws.Item.{place-given}
use Rattle.steps.specs.Steps.{kept_of, step_refusal, padded}
use Rattle.steps.proofs.Laws.Parts.{lent-short, kept-step}
use Rattle.steps.proofs.step_of.Goals as goal

pub returns-in_err-item_place : goal.returns-in_err-item_place
unfolding kept_of step_refusal
returns-in_err-item_place c = grind arith

pub returns-in_err-require : goal.returns-in_err-require
unfolding kept_of step_refusal
returns-in_err-require c = grind arith

pub padded-old-requires : goal.padded-old-requires
padded-old-requires c = let a = c.args in omega (arith, ap length c.item_part.ensures.0, lent-short a.item a.bytes.now)

pub returns : goal.returns
returns c =
    let a = c.args in
    let given = place-given a.item _ c.in_ok-item_place.ensures.value in
    kept-step a.item a.bytes.now _ given.0 (check-passed _ _ (sym c.in_ok-require.was ∙ c.require.ensures)) (c.padded-old.ensures ∙ ap padded c.item_part.ensures.0)
