-- `record::store_item` meets its contract: what is put in the item's place is what its bytes are stored as.
-- Assumes nothing.
use mathlib.Core.Path.{refl, sym, ap, ◌∙◌}
use Rattle.std.proofs.Common.{rules}
use Rattle.refusal.proofs.Laws.Chain.{told}
use Rattle.rules.specs.Rules.{picture_clean}
use Rattle.record.proofs.Laws.Stored.{mode-stored, plain-stored, store-put}
use Rattle.record.proofs.store_item.Goals as goal

pub unwrap-requires : goal.unwrap-requires
unwrap-requires c =
    let a = c.args in
    c.as_array.ensures.variant.1 ((mode-stored a.number a.bytes.now (told _ _ _ c.in_ok-item_refusal.ensures refl) (sym c.is_picture.ensures ∙ c.if-is_picture.true)).0)

pub returns-then-is_picture : goal.returns-then-is_picture
returns-then-is_picture c =
    let a = c.args in
    let accepted = told _ _ _ c.in_ok-item_refusal.ensures refl in
    let M = mode-stored a.number a.bytes.now accepted (sym c.is_picture.ensures ∙ c.if-is_picture.true) in
    store-put a.number a.bytes.now a.out.now _ _ c.put_item.result accepted
    (c.picture_clean-clean.ensures ∙ ap picture_clean (search rules) ∙ M.1) c.put_item.ensures.0 c.put_item.ensures.1

pub returns : goal.returns
returns c =
    let a = c.args in
    store-put a.number a.bytes.now a.out.now a.bytes.now _ c.put_item-2.result (told _ _ _ c.in_ok-item_refusal.ensures refl)
    (plain-stored a.number a.bytes.now (sym c.is_picture.ensures ∙ c.if-is_picture.false)) c.put_item-2.ensures.0 c.put_item-2.ensures.1
