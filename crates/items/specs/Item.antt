-- One item by its number: its row in the table, where it stands, what the bytes given for it are refused for, and what they are stored as.
-- Assumes nothing.
use Rattle.std.specs.Prelude.{Bool, true, cond, List, [], ◌∷◌, ◌++◌, ℕ, ◌+◌, ◌-◌, eqb, length, take, drop}
use Rattle.std.proofs.Math.Option.{Option, none, some}
use Rattle.refusal.specs.Chain.{require, passed}
use Rattle.refusal.specs.Number.{refusal_at, refusal_plain}
use Rattle.refusal.specs.declared.Reason.{Reason}
use Rattle.refusal.specs.declared.Reason.TheVariants.{Item, Size}
use Rattle.refusal.specs.declared.Refusal.{Refusal}
use Rattle.items.specs.declared.ItemPlace.{ItemPlace}
use Rattle.items.specs.Items.{Row, items, part}

-- the row that has the number
unfoldable pub row_of : ℕ → List Row → Option Row
row_of n [] = none
row_of n (i ∷ is) = cond (eqb n i.number) (some i) (row_of n is)

-- no such item, another number of bytes than it has, its rule
unfoldable pub refused_in : List ℕ → Option Row → Option Refusal
refused_in bytes none = some (refusal_plain Item)
refused_in bytes (some i) =
    require (eqb (length bytes) i.long) (refusal_plain Size) (require (i.rule bytes) (refusal_at i.reason i.first) passed)

unfoldable pub item_refusal : ℕ → List ℕ → Option Refusal
item_refusal number bytes = refused_in bytes (row_of number items)

-- no such item
unfoldable pub place_refused_in : Option Row → Option Refusal
place_refused_in none = some (refusal_plain Item)
place_refused_in (some i) = passed

unfoldable pub place_refusal : ℕ → Option Refusal
place_refusal number = place_refused_in (row_of number items)

-- its first byte, counted from 1, and its length; 0 and 0 where there is no such item
unfoldable pub place_in : Option Row → ItemPlace
place_in none = record { first = 0; length = 0 }
place_in (some i) = record { first = i.first; length = i.long }

unfoldable pub place_of : ℕ → ItemPlace
place_of number = place_in (row_of number items)

-- its rule and the reason that it gives; where there is no such item, those of an item that may hold anything
unfoldable pub rule_in : List ℕ → Option Row → Bool
rule_in bytes none = true
rule_in bytes (some i) = i.rule bytes

unfoldable pub rule_of : ℕ → List ℕ → Bool
rule_of number bytes = rule_in bytes (row_of number items)

unfoldable pub reason_in : Option Row → Reason
reason_in none = Item
reason_in (some i) = i.reason

unfoldable pub reason_of : ℕ → Reason
reason_of number = reason_in (row_of number items)

-- ---- the bytes of an item in a record

-- bytes written over others from a place on, counted from 0
unfoldable pub put : List ℕ → ℕ → List ℕ → List ℕ
put old at new = take at old ++ new ++ drop (at + length new) old

-- what the bytes of an item are stored as: every place that isn't read set to zero; themselves where there is no such item
unfoldable pub clean_in : List ℕ → Option Row → List ℕ
clean_in bytes none = bytes
clean_in bytes (some i) = i.clean bytes

unfoldable pub clean_of : ℕ → List ℕ → List ℕ
clean_of number bytes = clean_in bytes (row_of number items)

-- the item's bytes; none where there is no such item
unfoldable pub part_in : List ℕ → Option Row → List ℕ
part_in bytes none = []
part_in bytes (some i) = part i bytes

unfoldable pub item_part : ℕ → List ℕ → List ℕ
item_part number bytes = part_in bytes (row_of number items)

-- the record with these bytes, as they are, in the item's place; unchanged where there is no such item
unfoldable pub put_in : List ℕ → List ℕ → Option Row → List ℕ
put_in bytes old none = old
put_in bytes old (some i) = put old (i.first - 1) bytes

unfoldable pub put_item : ℕ → List ℕ → List ℕ → List ℕ
put_item number bytes old = put_in bytes old (row_of number items)
