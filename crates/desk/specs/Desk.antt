-- The desk: what it opens with, and what an opening, an edit, an undo and a send answer and leave, the last three for every desk value.
-- Assumes nothing.
use Rattle.std.specs.Prelude.{Bool, true, List, ℕ, ◌+◌, ◌-◌, ◌%◌, ltb, length, get_or, replicate}
use Rattle.std.proofs.Math.Option.{Option}
use Rattle.refusal.specs.Chain.{require, passed, left_by}
use Rattle.refusal.specs.Number.{refusal_plain}
use Rattle.refusal.specs.declared.Reason.TheVariants.{NothingToUndo, OffRetired}
use Rattle.refusal.specs.declared.Refusal.{Refusal}
use Rattle.items.specs.Item.{item_refusal, clean_of, put_item}
use Rattle.refusal.specs.Checked.{checked_of}
use Rattle.writing.specs.Layout.{packet_words}
use Rattle.writing.specs.Writing.{room_refusal}
use Rattle.steps.specs.declared.Step.{Step}
use Rattle.steps.specs.Steps.{depth, step_room, held_of, pushed, count_on, blank, step_of, back_from}
use Rattle.desk.specs.declared.Desk.{Desk}
use Rattle.desk.specs.declared.Turn.{Turn}

-- a call's answer: the desk that passed checks lead to, or the desk as it was; and the check
abbrev pub turn_by : Option Refusal → Desk → Desk → Turn
turn_by o new old = record { desk = left_by o new old; checked = checked_of o }

-- ---- open: 41

-- what a desk opens with: eight 0x20; 0xFF in items 2, 5, 8, 10 and 11; zero elsewhere
unfoldable pub opening : List ℕ
opening =
    put_item 11 (replicate 4 0xFF)
    (put_item 10 (replicate 4 0xFF)
    (put_item 8 (replicate 1 0xFF)
    (put_item 5 (replicate 1 0xFF)
    (put_item 2 (replicate 9 0xFF)
    (put_item 1 (replicate 8 0x20)
    (replicate 248 0))))))

-- the place of a step that is not there
unfoldable pub no_step : Step
no_step = record { item = 0; old = replicate step_room 0 }

-- the opening record, CI 0 and no history
unfoldable pub fresh_desk : Desk
fresh_desk = record { bytes = opening; ci = 0; steps = replicate depth no_step; count = 0 }

-- with correction on only
unfoldable pub open_refusal : Bool → Option Refusal
open_refusal correction = require correction (refusal_plain OffRetired) passed

-- whichever is asked for, the desk is the same
unfoldable pub opened : Bool → Turn
opened correction = record { desk = fresh_desk; checked = checked_of (open_refusal correction) }

-- ---- edit: 20, 21, the item's rule

unfoldable pub edited : Desk → ℕ → List ℕ → Turn
edited d item bytes =
    turn_by (item_refusal item bytes)
    (record {
      bytes = put_item item (clean_of item bytes) d.bytes;
      ci = d.ci;
      steps = pushed d.steps (held_of d.count) (step_of item d.bytes);
      count = count_on (held_of d.count);
    })
    d

-- ---- undo: 22

-- the latest step
abbrev pub latest : Desk → Step
latest d = get_or d.steps (held_of d.count - 1) blank

unfoldable pub undo_refusal : Desk → Option Refusal
undo_refusal d = require (ltb 0 d.count) (refusal_plain NothingToUndo) passed

unfoldable pub undone : Desk → Turn
undone d =
    turn_by (undo_refusal d)
    (record { bytes = back_from (latest d) d.bytes; ci = d.ci; steps = d.steps; count = held_of d.count - 1 })
    d

-- ---- send: 23

-- room for so many words, whatever the desk
unfoldable pub send_refusal : ℕ → Option Refusal
send_refusal room = room_refusal room

-- CI modulo 16 is sent, and the next is counted on from it
unfoldable pub sent : Desk → ℕ → Turn
sent d room =
    turn_by (send_refusal room)
    (record { bytes = d.bytes; ci = (d.ci % 16 + 1) % 16; steps = d.steps; count = d.count })
    d

-- what is left in the lent buffer: the packet of the desk's bytes as they stand, with correction on, or what was there
unfoldable pub send_leaves : Desk → List ℕ → List ℕ
send_leaves d old = left_by (send_refusal (length old)) (packet_words true (d.ci % 16) d.bytes) old
