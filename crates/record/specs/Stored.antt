-- What the calls on one item of a record are refused for and leave: its part handed out, bytes put into its place as they are, bytes checked
-- and stored.
-- Assumes nothing.
use Rattle.std.specs.Prelude.{cond, List, [], ℕ, ◌-◌, eqb, length}
use Rattle.std.proofs.Math.Option.{Option, none, some}
use Rattle.refusal.specs.Chain.{require, next, passed, left_by}
use Rattle.refusal.specs.Number.{refusal_plain}
use Rattle.refusal.specs.declared.Reason.TheVariants.{Item, Size, Room}
use Rattle.refusal.specs.declared.Refusal.{Refusal}
use Rattle.items.specs.Items.{Row, items}
use Rattle.items.specs.Item.{row_of, place_of, item_refusal, clean_of, item_part, put_item}

-- the item's part of 248 bytes, or nothing
unfoldable pub item_lent : ℕ → List ℕ → List ℕ
item_lent number bytes = cond (eqb (length bytes) 248) (item_part number bytes) []

-- and how far on it begins; where there is nothing, at the beginning (of no item the first byte is 0, and 0 less 1 is 0)
unfoldable pub item_start : ℕ → List ℕ → ℕ
item_start number bytes = cond (eqb (length bytes) 248) ((place_of number).first - 1) 0

-- 20, 21, 23: as many bytes as the item has, to be put into so many
unfoldable pub put_refused_in : List ℕ → ℕ → Option Row → Option Refusal
put_refused_in bytes room none = some (refusal_plain Item)
put_refused_in bytes room (some i) =
    require (eqb (length bytes) i.long) (refusal_plain Size) (require (eqb room 248) (refusal_plain Room) passed)

unfoldable pub put_refusal : ℕ → List ℕ → ℕ → Option Refusal
put_refusal number bytes room = put_refused_in bytes room (row_of number items)

-- the bytes in the item's place, or what was there
unfoldable pub put_leaves : ℕ → List ℕ → List ℕ → List ℕ
put_leaves number bytes old = left_by (put_refusal number bytes (length old)) (put_item number bytes old) old

-- 20, 21, the item's rule, 23: the bytes for an item, to be stored into so many
unfoldable pub store_refusal : ℕ → List ℕ → ℕ → Option Refusal
store_refusal number bytes room = next (item_refusal number bytes) (require (eqb room 248) (refusal_plain Room) passed)

-- the bytes, with every place that isn't read set to zero, in the item's place, or what was there
unfoldable pub store_leaves : ℕ → List ℕ → List ℕ → List ℕ
store_leaves number bytes old = left_by (store_refusal number bytes (length old)) (put_item number (clean_of number bytes) old) old
