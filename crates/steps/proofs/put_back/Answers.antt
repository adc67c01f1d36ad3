-- `steps::put_back` meets its contract: the first bytes of the step, as many as its item has, are put into the item's place.
-- Assumes nothing.
use mathlib.Core.Path.{ap}
use native.Mathlib.Omega.{arith}
use Rattle.items.specs.declared.ItemPlace.{ItemPlace}
use Rattle.items.proofs.Laws.Item.{place-given}
use Rattle.record.specs.Stored.{put_leaves}
use Rattle.record.proofs.Laws.Stored.{put-checks}
use Rattle.steps.specs.Steps.{back_refusal, back_from}
use Rattle.steps.proofs.Laws.Parts.{short, back-put}
use Rattle.steps.proofs.put_back.Goals as goal

pub returns-in_err-place : goal.returns-in_err-place
unfolding back_refusal back_from put_leaves
returns-in_err-place c = (grind (arith, put-checks), grind (arith, put-checks))

pub shared_ref_as_front-put_item : goal.shared_ref_as_front-put_item
shared_ref_as_front-put_item c =
    let s = c.args.step in
    let given = place-given s.item c.in_ok-place.place c.in_ok-place.ensures.value in
    omega (arith, short s.item, ap (λ (p : ItemPlace). p.length) given.1)

pub returns : goal.returns
returns c =
    let a = c.args in
    let given = place-given a.step.item c.in_ok-place.place c.in_ok-place.ensures.value in
    back-put a.step c.in_ok-place.place a.bytes.now _ _ given.1 c.put_item.ensures.0 c.put_item.ensures.1
