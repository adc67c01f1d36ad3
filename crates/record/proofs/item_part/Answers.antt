-- `record::item_part` meets its contract: the part from the item's place on is its bytes.
-- Assumes nothing.
use mathlib.Core.Logic.{inl, inr}
use Rattle.items.proofs.Laws.Item.{place-given, place-missing}
use Rattle.record.proofs.Laws.Stored.{lent-part, lent-start, lent-none}
use Rattle.record.proofs.item_part.Goals.{in_default-via-in-Ok+else-bytes-eq248, in_default-via-in_default}
use Rattle.record.proofs.item_part.Goals as goal

pub returns-in-Ok : goal.returns-in-Ok
returns-in-Ok c =
    let a = c.args in
    let p = c.in-Ok.place in
    let given = place-given a.number p c.in-Ok.ensures.value in (
      lent-part a.number p a.bytes.now given.1 c.if-bytes-eq248.true given.0,
      lent-start a.number p a.bytes.now a.bytes.ref_ptr given.1 c.if-bytes-eq248.true,
    )

pub returns-in_default : goal.returns-in_default
returns-in_default c =
    let a = c.args in
    lent-none a.number a.bytes.now a.bytes.ref_ptr
    (elim c.in_default.branch [
      | in_default-via-in-Ok+else-bytes-eq248 w ↦ inr w.if-bytes-eq248.false
      | in_default-via-in_default w ↦ inl (place-missing a.number _ w.in_default.ensures.value)
    ])
