-- A desk stands for a history: the opened one does, and each call leads on to the history that it makes. So each packet sent is that of the
-- present record with the number of sends, modulo 16, as its index, and an undo gives back the very record before the latest edit.
-- Assumes nothing.
use mathlib.Core.Path.{◌≡◌, refl, sym, ap, ◌∙◌, subst}
use mathlib.Core.Bool.{Bool, true, false, cond}
use mathlib.Core.List.{List, [], ◌∷◌}
use mathlib.Core.Option.{Option, none, some}
use Prim.Native.Nat.{ℕ, zero, suc, ◌+◌, ◌-◌, ◌%◌, ◌≤◌, ◌<◌}
use native.Mathlib.Omega.{arith}
use lib.Dec.{eqb}
use lib.ListN.{length, take, drop, get_or}
use borrow.Author.Tests.{lt-ltb, ne_eqb}
use Rattle.std.proofs.lemmas.Bool.{cond_both}
use Rattle.refusal.specs.Chain.{require, passed, left_by}
use Rattle.refusal.specs.Number.{refusal_plain}
use Rattle.refusal.specs.declared.Reason.TheVariants.{Room}
use Rattle.refusal.specs.declared.Refusal.{Refusal}
use Rattle.rules.specs.Rules.{station_rule, station_byte, time_rule, time_byte, decimal, picture_rule, picture_clean, sound_rule, sound_byte}
use Rattle.refusal.specs.Run.{first_from}
use Rattle.record.specs.Reserved.{reserved_area, reserved_refusal}
use Rattle.record.specs.Record.{laid_out, record_of, broken, content_refusal}
use Rattle.items.specs.Items.{items, part}
use Rattle.items.specs.Item.{row_of, put, put_in, item_refusal, clean_of, put_item}
use Rattle.basics.specs.Each.{all}
use Rattle.basics.specs.Below.{Bytes}
use Rattle.basics.proofs.Laws.Below.{all-below}
use Rattle.record.proofs.Laws.Stored.{CleanRecord, clean-long, store-clean}
use Rattle.writing.specs.Layout.{packet_words}
use Rattle.steps.specs.declared.Step.{Step}
use Rattle.steps.specs.Steps.{depth, held_of, pushed, count_on, blank, step_of, back_from}
use Rattle.steps.proofs.Laws.History.{newest, unwound, unwound-step, unwound-take, held-few, pushed-length, push-newest, count-more, count-few, back-from-step, pop}
use Rattle.desk.specs.declared.Desk.{Desk}
use Rattle.desk.specs.Desk.{opening, no_step, fresh_desk, opened, edited, undo_refusal, undone, send_refusal, sent, send_leaves}
use Rattle.desk.specs.Model.{Model, fresh, edit_m, undo_to, send_m}

-- ---- what is so of the present record and of each earlier one

abbrev pub All : (List ℕ → Type 0) → List (List ℕ) → Type 0
All P [] = Unit {0}
All P (r ∷ rs) = P r × All P rs

pub record Holds (P : List ℕ → Type 0) (m : Model) : Type 0 where
  pub present : P m.present
  pub earlier : All P m.earlier

all_take : (P : List ℕ → Type 0) (k : ℕ) (rs : List (List ℕ)) → All P rs → All P (take k rs)
all_take P zero rs a = tt
all_take P (suc k) [] a = tt
all_take P (suc k) (r ∷ rs) a = (a.0, all_take P k rs a.1)

-- what is so of what a call leads to, where nothing is refused, and of what stood before it is so of what is left
either : {X : Type 0} (P : X → Type 0) (o : Option Refusal) (new old : X) → (o ≡ none → P new) → P old → P (left_by o new old)
either P none new old f p = f refl
either P (some why) new old f p = p

module _ (P : List ℕ → Type 0) where
  pub edit-holds : (item : ℕ) (bytes : List ℕ) (m : Model) → (item_refusal item bytes ≡ none → P m.present → P (put_item item (clean_of item bytes) m.present))
      → Holds P m → Holds P (edit_m item bytes m)
  unfolding edit_m
  edit-holds item bytes m f h =
      either (Holds P) (item_refusal item bytes) _ m
      (λ e. record { present = f e h.present; earlier = all_take P depth (m.present ∷ m.earlier) (h.present, h.earlier) }) h

  pub undo-holds : (m : Model) → Holds P m → Holds P (undo_to m.earlier m)
  undo-holds m h = by m.earlier h.earlier
    where
      by : (rs : List (List ℕ)) → All P rs → Holds P (undo_to rs m)
      by [] a = h
      by (r ∷ rs) a = record { present = a.0; earlier = a.1 }

  pub send-holds : (room : ℕ) (m : Model) → Holds P m → Holds P (send_m room m)
  unfolding send_m
  send-holds room m h = cond_both (eqb room 262) _ m (Holds P) (λ e. record { present = h.present; earlier = h.earlier }) (λ e. h)

-- ---- a desk that stands for a history

pub record Stands (d : Desk) (m : Model) : Type 0 where
  pub bytes : d.bytes ≡ m.present
  pub ci : d.ci ≡ m.sends % 16
  pub room : length d.steps ≡ 32
  pub count : d.count ≡ length m.earlier
  pub few : d.count ≤ 32
  pub history : unwound (newest d.steps d.count) d.bytes ≡ m.earlier
  pub clean : Holds CleanRecord m

-- the opening record is clean
opening-clean : CleanRecord opening
unfolding opening items part laid_out record_of reserved_area first_from reserved_refusal broken content_refusal row_of put put_in put_item station_rule station_byte time_rule time_byte decimal all picture_rule picture_clean sound_rule sound_byte
opening-clean = record { long = refl; rules = refl; own = refl }

-- the desk of an opening stands for the fresh history, also where the opening is refused
pub open-stands : (correction : Bool) → Stands (opened correction).desk fresh
unfolding opened fresh_desk fresh newest unwound no_step
open-stands correction =
    record {
      bytes = refl;
      ci = refl;
      room = refl;
      count = refl;
      few = omega arith;
      history = refl;
      clean = record { present = opening-clean; earlier = tt };
    }

-- two calls that are refused for the same
both_by : (P : Desk → Model → Type 0) (o : Option Refusal) (d' d : Desk) (m' m : Model) → (o ≡ none → P d' m') → P d m → P (left_by o d' d) (left_by o m' m)
both_by P none d' d m' m f p = f refl
both_by P (some why) d' d m' m f p = p

-- ---- an edit

module _ (d : Desk) (m : Model) (s : Stands d m) where
  stands-long : length d.bytes ≡ 248
  stands-long = ap length s.bytes ∙ s.clean.present.long

  module _ (item : ℕ) (bytes : List ℕ) where
    abbrev new : List ℕ
    new = clean_of item bytes

    edit-history : item_refusal item bytes ≡ none
        → unwound (newest (pushed d.steps (held_of d.count) (step_of item d.bytes)) (count_on (held_of d.count))) (put_item item new d.bytes) ≡ take 32 (m.present ∷ m.earlier)
    edit-history a =
        let back : back_from (step_of item d.bytes) (put_item item new d.bytes) ≡ d.bytes =
        back-from-step item new d.bytes stands-long (clean-long item bytes a) in
        let pushes = push-newest d.steps d.count (step_of item d.bytes) s.room s.few in
        let whole : unwound (step_of item d.bytes ∷ newest d.steps d.count) (put_item item new d.bytes) ≡ m.present ∷ m.earlier =
        unwound-step (step_of item d.bytes) (newest d.steps d.count) (put_item item new d.bytes) ∙ rw back (λ i. s.bytes i ∷ s.history i) in
        rw (held-few d.count s.few, pushes, unwound-take 32 (step_of item d.bytes ∷ newest d.steps d.count) (put_item item new d.bytes))
        (ap (take 32) whole)

    edit-accepted : item_refusal item bytes ≡ none → Stands (record {
      bytes = put_item item new d.bytes;
      ci = d.ci;
      steps = pushed d.steps (held_of d.count) (step_of item d.bytes);
      count = count_on (held_of d.count);
    }) (record { present = put_item item new m.present; earlier = take depth (m.present ∷ m.earlier); sends = m.sends })
    edit-accepted a =
        record {
          bytes = ap (put_item item new) s.bytes;
          ci = s.ci;
          room = pushed-length d.steps (held_of d.count) (step_of item d.bytes) s.room;
          count = rw (held-few d.count s.few) (count-more d.count s.few m.earlier m.present s.count);
          few = rw (held-few d.count s.few) (count-few d.count s.few);
          history = edit-history a;
          clean = record {
            present = store-clean item bytes m.present a s.clean.present;
            earlier = all_take CleanRecord depth (m.present ∷ m.earlier) (s.clean.present, s.clean.earlier);
          };
        }

    pub edit-stands : Stands (edited d item bytes).desk (edit_m item bytes m)
    unfolding edited edit_m
    edit-stands = both_by Stands (item_refusal item bytes) _ d _ m edit-accepted s

  -- ---- an undo

  undo-empty : m.earlier ≡ [] → (undone d).desk ≡ d
  unfolding undone undo_refusal
  undo-empty e = let z : d.count ≡ 0 = s.count ∙ ap length e in rw z

  module _ (r : List ℕ) (rs : List (List ℕ)) (e : m.earlier ≡ r ∷ rs) where
    counted : d.count ≡ suc (length rs)
    counted = s.count ∙ ap length e

    some-step : 0 < d.count
    some-step = omega (arith, counted)

    undo-history : back_from (get_or d.steps (d.count - 1) blank) d.bytes ∷ unwound (newest d.steps (d.count - 1)) (back_from (get_or d.steps (d.count - 1) blank) d.bytes) ≡ r ∷ rs
    undo-history =
        let few : d.count ≤ length d.steps = omega (arith, s.few, s.room) in
        sym (unwound-step (get_or d.steps (d.count - 1) blank) (newest d.steps (d.count - 1)) d.bytes)
        ∙ ap (λ (l : List Step). unwound l d.bytes) (sym (pop d.steps d.count some-step few))
        ∙ s.history ∙ e

    undo-accepted : Stands (record { bytes = back_from (get_or d.steps (d.count - 1) blank) d.bytes; ci = d.ci; steps = d.steps; count = d.count - 1 })
        (record { present = r; earlier = rs; sends = m.sends })
    undo-accepted =
        let c : All CleanRecord (r ∷ rs) = subst (All CleanRecord) e s.clean.earlier in
        record {
          bytes = ap (λ (l : List (List ℕ)). get_or l 0 []) undo-history;
          ci = s.ci;
          room = s.room;
          count = omega (arith, counted);
          few = omega (arith, s.few);
          history = ap (λ (l : List (List ℕ)). drop 1 l) undo-history;
          clean = record { present = c.0; earlier = c.1 };
        }

    undo-some : Stands (undone d).desk (record { present = r; earlier = rs; sends = m.sends })
    unfolding undone undo_refusal
    undo-some = simp (lt-ltb 0 d.count some-step) (rw (held-few d.count s.few) undo-accepted)

  pub undo-stands : Stands (undone d).desk (undo_to m.earlier m)
  undo-stands = by m.earlier refl
    where
      by : (rs : List (List ℕ)) → m.earlier ≡ rs → Stands (undone d).desk (undo_to rs m)
      by [] e = subst (λ (x : Desk). Stands x m) (sym (undo-empty e)) s
      by (r ∷ rs) e = undo-some r rs e

  -- ---- a send

  pub send-stands : (room : ℕ) → Stands (sent d room).desk (send_m room m)
  unfolding sent send_refusal send_m
  send-stands room = by (eqb room 262)
    where
      by : (t : Bool) → Stands
          (left_by (require t (refusal_plain Room) passed) (record { bytes = d.bytes; ci = (d.ci % 16 + 1) % 16; steps = d.steps; count = d.count }) d)
          (cond t (record { present = m.present; earlier = m.earlier; sends = m.sends + 1 }) m)
      by true =
          record {
            bytes = s.bytes;
            ci = omega (arith, s.ci);
            room = s.room;
            count = s.count;
            few = s.few;
            history = s.history;
            clean = record { present = s.clean.present; earlier = s.clean.earlier };
          }
      by false = s

  -- the words sent are those of the present record, with the number of sends modulo 16 as their index
  pub sent-words : (old : List ℕ) → length old ≡ 262 → send_leaves d old ≡ packet_words true (m.sends % 16) m.present
  unfolding send_leaves send_refusal
  sent-words old n =
      let c : d.ci % 16 ≡ m.sends % 16 = omega (arith, s.ci) in
      rw n (λ i. packet_words true (c i) (s.bytes i))

-- ---- undo after an edit, and the index

-- an undo after an accepted edit gives back the bytes before it
pub undo-edit : (d : Desk) (m : Model) → Stands d m → (item : ℕ) (bytes : List ℕ) → item_refusal item bytes ≡ none
    → (undone (edited d item bytes).desk).desk.bytes ≡ d.bytes
unfolding edit_m
undo-edit d m s item bytes a =
    let e : (edit_m item bytes m).earlier ≡ m.present ∷ take 31 m.earlier = rw a in
    (undo-some (edited d item bytes).desk (edit_m item bytes m) (edit-stands d m s item bytes) m.present (take 31 m.earlier) e).bytes ∙ sym s.bytes

-- an undo never moves the index, whatever the desk
pub undo-index : (d : Desk) → (undone d).desk.ci ≡ d.ci
unfolding undone
undo-index d = either (λ (x : Desk). x.ci ≡ d.ci) (undo_refusal d) _ d (λ e. refl) refl

-- ---- the number of sends: an edit and an undo leave it, a send into room for its words is one more, into any other room none

pub edit-sends : (item : ℕ) (bytes : List ℕ) (m : Model) → (edit_m item bytes m).sends ≡ m.sends
unfolding edit_m
edit-sends item bytes m = either (λ (x : Model). x.sends ≡ m.sends) (item_refusal item bytes) _ m (λ e. refl) refl

pub undo-sends : (rs : List (List ℕ)) (m : Model) → (undo_to rs m).sends ≡ m.sends
undo-sends [] m = refl
undo-sends (r ∷ rs) m = refl

pub one-sent : (m : Model) → (send_m 262 m).sends ≡ m.sends + 1
unfolding send_m
one-sent m = refl

pub none-sent : (room : ℕ) (m : Model) → (room ≡ 262 → ⊥) → send_m room m ≡ m
unfolding send_m
none-sent room m n = rw (ne_eqb room 262 n)

-- ---- the opening record is bytes

pub opening-bytes : Bytes opening
unfolding opening items row_of put put_in put_item all
opening-bytes = all-below 256 opening refl
