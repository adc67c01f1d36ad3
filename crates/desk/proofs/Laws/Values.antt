-- What the definitions give at some desks: the opening record written out; an opening that is refused; an edit, sends and an undo after one that is not.
-- Assumes nothing.
use mathlib.Core.Path.{◌≡◌, refl}
use mathlib.Core.Bool.{true, false}
use mathlib.Core.List.{[], ◌∷◌, ◌++◌}
use mathlib.Core.Option.{none, some}
use lib.ListN.{get_or, replicate}
use Rattle.refusal.specs.Number.{refusal_at, refusal_plain}
use Rattle.refusal.specs.declared.Reason.TheVariants.{Sound, NothingToUndo, OffRetired}
use Rattle.basics.specs.Each.{all}
use Rattle.rules.specs.Rules.{sound_rule, sound_byte}
use Rattle.items.specs.Items.{items, part}
use Rattle.items.specs.Item.{row_of, refused_in, item_refusal, place_in, place_of, put, clean_in, clean_of, part_in, item_part, put_in, put_item}
use Rattle.refusal.specs.Checked.{refusal_in}
use Rattle.record.specs.Stored.{item_lent, put_refused_in, put_refusal, put_leaves}
use Rattle.steps.specs.Steps.{held_of, pushed, count_on, padded, step_of, back_from}
use Rattle.desk.specs.declared.Desk.{Desk}
use Rattle.desk.specs.Desk.{opening, no_step, fresh_desk, open_refusal, opened, edited, undo_refusal, undone, send_refusal, sent}

-- the opening record, byte by byte
pub opening-written : opening ≡ replicate 8 0x20 ++ replicate 9 0xFF ++ replicate 8 0 ++ (0xFF ∷ 0 ∷ 0 ∷ 0xFF ∷ 0 ∷ 0 ∷ 0 ∷ 0 ∷ []) ++ replicate 8 0xFF ++ replicate 207 0
unfolding opening items row_of put put_in put_item
opening-written = refl

-- an edit of the current sound mode, two sends, an undo
abbrev after : Desk
after = (undone (sent (sent (edited (opened true).desk 6 (0x12 ∷ [])).desk 262).desk 262).desk).desk

pub record Values : Type 0 where
  pub on-passed : refusal_in (opened true).checked ≡ none
  pub off-retired : refusal_in (opened false).checked ≡ some (refusal_plain OffRetired)
  pub sent-on : after.ci ≡ 2
  pub put_back : get_or after.bytes 26 0 ≡ 0
  pub step_gone : after.count ≡ 0
  pub none_left : refusal_in (undone after).checked ≡ some (refusal_plain NothingToUndo)
  pub sound-0x1B : refusal_in (edited (opened true).desk 6 (0x1B ∷ [])).checked ≡ some (refusal_at Sound 27)
  pub count-200 : held_of 200 ≡ 32

pub values : Values
unfolding open_refusal opened fresh_desk opening no_step held_of padded step_of pushed count_on back_from edited undo_refusal undone send_refusal sent all sound_rule sound_byte items part row_of refused_in item_refusal place_in place_of put clean_in clean_of part_in item_part put_in put_item item_lent put_refused_in put_refusal put_leaves
values = record { on-passed = refl; off-retired = refl; sent-on = refl; put_back = refl; step_gone = refl; none_left = refl; sound-0x1B = refl; count-200 = refl }
