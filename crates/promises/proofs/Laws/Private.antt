-- The private area as item 13: which items an edit takes, and what an edit of item 13 answers and leaves.
-- Assumes nothing.
use mathlib.Core.Path.{◌≡◌, refl, sym, ap, ◌∙◌}
use mathlib.Core.Bool.{Bool, true, false}
use mathlib.Core.List.{List, append-nil}
use mathlib.Core.Logic.Iff
use mathlib.Core.Logic.{◌↔◌, ◌⊎◌}
use mathlib.Core.Option.{none, some, some-injective}
use Prim.Native.Nat.{ℕ, ◌<◌, ◌≤◌}
use native.Mathlib.Omega.{arith}
use lib.Dec.{eqb}
use lib.ListN.{length, take, length-drop}
use borrow.Author.Tests.{eq-eqb, ne_eqb}
use Rattle.refusal.specs.Chain.{require, passed}
use Rattle.refusal.specs.Checked.{refusal_in}
use Rattle.refusal.specs.Number.{number_of, refusal_at, refusal_plain}
use Rattle.refusal.specs.declared.Reason.{Reason}
use Rattle.refusal.specs.declared.Reason.TheVariants.{Item, Size}
use Rattle.refusal.specs.declared.Refusal.{Refusal}
use Rattle.refusal.proofs.Laws.Chain.{passed-other, require-behind, other-number, refusal-in}
use Rattle.items.specs.Items.{items}
use Rattle.items.specs.Item.{row_of, refused_in, item_refusal, clean_in, clean_of, put_in, put_item}
use Rattle.items.proofs.Laws.Item.{no_row}
use Rattle.record.specs.Record.{private_part}
use Rattle.record.specs.Stored.{item_lent}
use Rattle.record.proofs.Laws.Put.{put-before}
use Rattle.record.proofs.Laws.Stored.{by_row, private-item}
use Rattle.steps.specs.Steps.{padded, step_of}
use Rattle.desk.specs.declared.Desk.{Desk}
use Rattle.desk.specs.declared.Turn.{Turn}
use Rattle.desk.specs.Desk.{edited}
use Rattle.desk.specs.Model.{Model}
use Rattle.promises.specs.Calls.{Edits}
use Rattle.promises.specs.History.{History}
use Rattle.promises.specs.Private.{private_step, PrivateStored}
use Rattle.promises.proofs.Laws.Calls.{edits-is}
use Rattle.promises.proofs.Laws.History.{history-long, edit-done, edit-bytes, edit-stores, edit-keeps}

-- ---- which items there are

-- an item's rule is not refused with 20: its place is not 0
rule-other : (t : Bool) (why : Reason) (first : ℕ) → 1 ≤ first → require t (refusal_at why first) passed ≡ some (refusal_plain Item) → ⊥
rule-other true why first c e = passed-other _ e
rule-other false why first c e = let z : first ≡ 0 = ap (λ (r : Refusal). r.place) (some-injective _ _ e) in omega arith

refused-twenty : (n : ℕ) (bytes : List ℕ) → (item_refusal n bytes ≡ some (refusal_plain Item)) ↔ (row_of n items ≡ none)
unfolding item_refusal refused_in number_of
refused-twenty n bytes = (
  by_row n (λ o. refused_in bytes o ≡ some (refusal_plain Item) → o ≡ none) (λ e. refl)
      (λ i f s e.
      let behind = require-behind (eqb (length bytes) i.long) (refusal_plain Size) (refusal_plain Item) (require (i.rule bytes) (refusal_at i.reason i.first) passed) (other-number _ _ refl) in
      absurd (rule-other (i.rule bytes) i.reason i.first s.counted (behind.0 e).1)),
  λ e. rw e,
)

-- what an edit tells
edit-tells : (d : Desk) (item : ℕ) (bytes : List ℕ) (t : Turn) → Edits d item bytes t → refusal_in t.checked ≡ item_refusal item bytes
unfolding edited
edit-tells d item bytes t E = ap (λ (x : Turn). refusal_in x.checked) (edits-is d item bytes t E) ∙ refusal-in (item_refusal item bytes)

-- 20 is given exactly for 0 and from 14 on
pub edit-no-item : (d : Desk) (item : ℕ) (bytes : List ℕ) (t : Turn) → Edits d item bytes t
    → (refusal_in t.checked ≡ some (refusal_plain Item)) ↔ ((item ≡ 0) ⊎ (13 < item))
edit-no-item d item bytes t E = rw (edit-tells d item bytes t E) (Iff.trans (refused-twenty item bytes) (no_row item))

-- ---- an edit of item 13

private-refusal : (bytes : List ℕ) → item_refusal 13 bytes ≡ require (eqb (length bytes) 141) (refusal_plain Size) passed
unfolding item_refusal refused_in row_of items
private-refusal bytes = refl

-- other than 141 bytes are refused with 21
pub edit-private-size : (d : Desk) (bytes : List ℕ) (t : Turn) → Edits d 13 bytes t → (length bytes ≡ 141 → ⊥) → refusal_in t.checked ≡ some (refusal_plain Size)
edit-private-size d bytes t E n = edit-tells d 13 bytes t E ∙ private-refusal bytes ∙ rw (ne_eqb (length bytes) 141 n)

pub private-long : (r : List ℕ) → length r ≡ 248 → length (private_part r) ≡ 141
unfolding private_part
private-long r h = rw (eq-eqb (length r) 248 h) (simp length-drop (omega arith))

-- the step holds the private area, with nothing behind it
private-step : (r : List ℕ) → length r ≡ 248 → step_of 13 r ≡ private_step (private_part r)
unfolding step_of padded
private-step r h =
    let l = private-long r h in
    let e : padded (item_lent 13 r) ≡ private_part r = rw (private-item r, l) (append-nil (private_part r)) in
    λ i. record { item = 13; old = e i }

-- it is the last of the record, so that what stands before it stays
private-before : (r bytes : List ℕ) → length r ≡ 248 → length bytes ≡ 141 → take 107 (put_item 13 (clean_of 13 bytes) r) ≡ take 107 r
unfolding put_item put_in clean_of clean_in row_of items
private-before r bytes h n = put-before r bytes 107 (omega arith)

private-clean : (bytes : List ℕ) → clean_of 13 bytes ≡ bytes
unfolding clean_of clean_in row_of items
private-clean bytes = refl

-- 141 bytes, whatever they are, are stored, at any desk that was opened
pub edit-private : (d : Desk) (m : Model) → History d m → (bytes : List ℕ) (t : Turn) → Edits d 13 bytes t → length bytes ≡ 141 → PrivateStored d bytes t
edit-private d m H bytes t E n =
    let h : length d.bytes ≡ 248 = history-long d m H in
    let a : item_refusal 13 bytes ≡ none = private-refusal bytes ∙ rw (eq-eqb (length bytes) 141 n) in
    record {
      done = edit-done d 13 bytes t E a;
      stored = sym (private-item t.desk.bytes) ∙ edit-stores d m H 13 bytes t E a ∙ private-clean bytes;
      before = ap (take 107) (edit-bytes d 13 bytes t E a) ∙ private-before d.bytes bytes h n;
      step = edit-keeps d m H 13 bytes t E a ∙ private-step d.bytes h;
      kept = private-long d.bytes h;
    }
