-- Demand 2: a desk shows, and sends, the record that its history gives; what an edit stores and keeps, and what undo gives back.
-- Assumes nothing.
use mathlib.Core.Path.{◌≡◌, refl, sym, ap, ◌∙◌, subst}
use mathlib.Core.Bool.{Bool, true, false}
use mathlib.Core.List.{List}
use mathlib.Core.Logic.{◌⊎◌, inl, inr}
use mathlib.Core.Option.{none}
use Prim.Native.Nat.{ℕ, ◌-◌, ◌%◌}
use borrow.Author.Tests.{eqb-true, eqb-false, eq-eqb}
use lib.Dec.{eqb}
use lib.ListN.{length, get_or}
use Rattle.std.specs.Prelude.{Ok}
use Rattle.items.specs.Item.{item_refusal, clean_of, item_part, put_item}
use Rattle.basics.specs.Below.{Bytes}
use Rattle.refusal.proofs.Laws.Chain.{told}
use Rattle.record.specs.Stored.{item_lent}
use Rattle.record.proofs.Laws.Stored.{clean-long, put-item-length, put-item-part, store_bytes}
use Rattle.steps.specs.Steps.{held_of, pushed, count_on, blank, step_of}
use Rattle.steps.proofs.Laws.History.{held-few, count-few, push-latest}
use Rattle.writing.specs.Layout.{packet_words}
use Rattle.desk.specs.declared.Desk.{Desk}
use Rattle.desk.specs.declared.Turn.{Turn}
use Rattle.desk.specs.Desk.{edited, latest, undone}
use Rattle.desk.specs.Model.{Model, fresh, edit_m, undo_to, send_m}
use Rattle.desk.proofs.Laws.Model.{Stands, Holds, open-stands, edit-stands, undo-stands, send-stands, sent-words, undo-edit, undo-index, edit-holds, undo-holds, send-holds, opening-bytes}
use Rattle.promises.specs.Calls.{Edits, Undoes, Sends}
use Rattle.promises.specs.History.{Turns, edits, undoes, History, opens, turns, sends}
use Rattle.promises.proofs.Laws.Calls.{opens-is, edits-is, undoes-is, sends-is, sends-leaves}
use Rattle.promises.proofs.Laws.Sent.{sent-as-they-stand}

-- ---- a desk stands for its history

turn-stands : (d : Desk) (m : Model) (d' : Desk) (m' : Model) → Stands d m → Turns d m d' m' → Stands d' m'
turn-stands d m d' m' s (edits {item = item} {bytes = bytes} {answer = t} E) =
    subst (λ (x : Turn). Stands x.desk (edit_m item bytes m)) (sym (edits-is d item bytes t E)) (edit-stands d m s item bytes)
turn-stands d m d' m' s (undoes {answer = t} U) =
    subst (λ (x : Turn). Stands x.desk (undo_to m.earlier m)) (sym (undoes-is d t U)) (undo-stands d m s)

pub stands : (d : Desk) (m : Model) → History d m → Stands d m
stands d m (opens {on = on} {answer = t} O) = subst (λ (x : Turn). Stands x.desk fresh) (sym (opens-is on t O)) (open-stands on)
stands d m (turns {d = d₀} {m = m₀} h t) = turn-stands d₀ m₀ d m (stands d₀ m₀ h) t
stands d m (sends {d = d₀} {m = m₀} {old = old} {answer = t} {left = left} h S) =
    subst (λ (x : Turn). Stands x.desk (send_m (length old) m₀)) (sym (sends-is d₀ old t left S)) (send-stands d₀ m₀ (stands d₀ m₀ h) (length old))

-- ---- what is shown

pub shown : (d : Desk) (m : Model) → History d m → d.bytes ≡ m.present
shown d m h = (stands d m h).bytes

-- ---- what is sent

-- into room for 262 words: exactly the words of the record that the history gives, with the number of packets sent before as their index
pub sent_is : (d : Desk) (m : Model) → History d m → (old : List ℕ) (t : Turn) (left : List ℕ) → Sends d old t left → length old ≡ 262
    → (t.checked ≡ Ok tt) × (left ≡ packet_words true (m.sends % 16) m.present)
sent_is d m h old t left S n =
    ((sent-as-they-stand d old t left S).done n, sends-leaves d old t left S ∙ sent-words d m (stands d m h) old n)

-- into any room: these words, or a refusal that leaves what was there
pub never_other : (d : Desk) (m : Model) → History d m → (old : List ℕ) (t : Turn) (left : List ℕ) → Sends d old t left
    → (left ≡ packet_words true (m.sends % 16) m.present) ⊎ (left ≡ old)
never_other d m h old t left S = by (eqb (length old) 262) refl
  where
    by : (b : Bool) → eqb (length old) 262 ≡ b → (left ≡ packet_words true (m.sends % 16) m.present) ⊎ (left ≡ old)
    by true e = inl (sent_is d m h old t left S (eqb-true (length old) 262 e)).1
    by false e = inr ((sent-as-they-stand d old t left S).kept (eqb-false (length old) 262 e))

-- ---- what an accepted edit stores, and keeps in its step

pub history-long : (d : Desk) (m : Model) → History d m → length d.bytes ≡ 248
history-long d m h = let s = stands d m h in ap length s.bytes ∙ s.clean.present.long

module _ (d : Desk) (item : ℕ) (bytes : List ℕ) (t : Turn) (E : Edits d item bytes t) (a : item_refusal item bytes ≡ none) where
  pub edit-done : t.checked ≡ Ok tt
  unfolding edited
  edit-done = ap (λ (x : Turn). x.checked) (edits-is d item bytes t E) ∙ rw a

  pub edit-bytes : t.desk.bytes ≡ put_item item (clean_of item bytes) d.bytes
  unfolding edited
  edit-bytes = ap (λ (x : Turn). x.desk.bytes) (edits-is d item bytes t E) ∙ rw a

  edit-latest : latest t.desk ≡ get_or (pushed d.steps (held_of d.count) (step_of item d.bytes)) (held_of (count_on (held_of d.count)) - 1) blank
  unfolding edited
  edit-latest = ap (λ (x : Turn). latest x.desk) (edits-is d item bytes t E) ∙ rw a

module _ (d : Desk) (m : Model) (h : History d m) (item : ℕ) (bytes : List ℕ) (t : Turn) (E : Edits d item bytes t) (a : item_refusal item bytes ≡ none) where
  -- the item's bytes are those that were given, with unread places zero
  pub edit-stores : item_lent item t.desk.bytes ≡ clean_of item bytes
  unfolding item_lent
  edit-stores =
      let n = history-long d m h in
      let long : length t.desk.bytes ≡ 248 = ap length (edit-bytes d item bytes t E a) ∙ put-item-length item d.bytes n (clean_of item bytes) (clean-long item bytes a) in
      rw (eq-eqb (length t.desk.bytes) 248 long)
      (ap (item_part item) (edit-bytes d item bytes t E a) ∙ put-item-part item d.bytes n (clean_of item bytes) (clean-long item bytes a))

  -- and the latest step holds those that were there
  pub edit-keeps : latest t.desk ≡ step_of item d.bytes
  edit-keeps =
      let s = stands d m h in
      edit-latest d item bytes t E a
      ∙ rw (held-few d.count s.few, held-few (count_on d.count) (count-few d.count s.few))
      (push-latest d.steps d.count (step_of item d.bytes) s.room s.few)

-- ---- what undo gives back

module _ (d : Desk) (m : Model) (h : History d m) (item : ℕ) (bytes : List ℕ) (t u : Turn) (E : Edits d item bytes t) (done : t.checked ≡ Ok tt)
    (U : Undoes t.desk u) where
  passed-edit : item_refusal item bytes ≡ none
  unfolding edited
  passed-edit = told (item_refusal item bytes) t.checked (Ok tt) (ap (λ (x : Turn). x.checked) (edits-is d item bytes t E)) done

  -- the very record before the latest edit
  pub undo-gives-back : u.desk.bytes ≡ d.bytes
  undo-gives-back =
      ap (λ (x : Turn). x.desk.bytes) (undoes-is t.desk u U) ∙ ap (λ (x : Turn). (undone x.desk).desk.bytes) (edits-is d item bytes t E)
      ∙ undo-edit d m (stands d m h) item bytes passed-edit

-- and the index stays where it is, whatever the desk
pub undo-keeps-index : (d : Desk) (t : Turn) → Undoes d t → t.desk.ci ≡ d.ci
undo-keeps-index d t U = ap (λ (x : Turn). x.desk.ci) (undoes-is d t U) ∙ undo-index d

-- ---- the records of a history are bytes

open-bytes : Holds Bytes fresh
unfolding fresh
open-bytes = record { present = opening-bytes; earlier = tt }

turn-bytes : (d : Desk) (m : Model) (d' : Desk) (m' : Model) → Holds Bytes m → Turns d m d' m' → Holds Bytes m'
turn-bytes d m d' m' b (edits {item = item} {bytes = bytes} E) = edit-holds Bytes item bytes m (λ a p. store_bytes item bytes m.present E.are_bytes p) b
turn-bytes d m d' m' b (undoes U) = undo-holds Bytes m b

pub history-bytes : (d : Desk) (m : Model) → History d m → Holds Bytes m
history-bytes d m (opens O) = open-bytes
history-bytes d m (turns {d = d₀} {m = m₀} h t) = turn-bytes d₀ m₀ d m (history-bytes d₀ m₀ h) t
history-bytes d m (sends {d = d₀} {m = m₀} {old = old} h S) = send-holds Bytes (length old) m₀ (history-bytes d₀ m₀ h)
