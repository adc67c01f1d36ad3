-- The history that a desk stands for: the present record, the earlier ones and the number of sends; and what each call makes of it.
-- Assumes nothing.
use Rattle.std.specs.Prelude.{cond, List, [], ◌∷◌, ℕ, ◌+◌, eqb, take}
use Rattle.refusal.specs.Chain.{left_by}
use Rattle.items.specs.Item.{item_refusal, clean_of, put_item}
use Rattle.steps.specs.Steps.{depth}
use Rattle.desk.specs.Desk.{opening}

-- the present record, the earlier ones (newest first, at most 32 of them), and how many packets were sent
pub record Model : Type 0 where
  pub present : List ℕ
  pub earlier : List (List ℕ)
  pub sends : ℕ

-- the opening record, no history and nothing sent
unfoldable pub fresh : Model
fresh = record { present = opening; earlier = []; sends = 0 }

-- an accepted edit stores the item's bytes, and the record before it is the newest of the earlier ones
unfoldable pub edit_m : ℕ → List ℕ → Model → Model
edit_m item bytes m =
    left_by (item_refusal item bytes)
    (record { present = put_item item (clean_of item bytes) m.present; earlier = take depth (m.present ∷ m.earlier); sends = m.sends })
    m

-- the newest of the earlier records is the present one again, where there is one
abbrev pub undo_to : List (List ℕ) → Model → Model
undo_to [] m = m
undo_to (r ∷ rs) m = record { present = r; earlier = rs; sends = m.sends }

-- one more was sent, where there is room for the words
unfoldable pub send_m : ℕ → Model → Model
send_m room m = cond (eqb room 262) (record { present = m.present; earlier = m.earlier; sends = m.sends + 1 }) m
