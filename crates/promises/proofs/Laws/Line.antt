-- Demand 3: what is delivered over a line is accepted, the follower shows what was sent, and its counts are the true ones.
-- Assumes nothing.
use mathlib.Core.Path.{◌≡◌, refl, sym, ap, ◌∙◌, subst}
use mathlib.Core.Bool.{Bool, true, false, cond}
use mathlib.Core.List.{List}
use mathlib.Core.Option.{none}
use Prim.Native.Nat.{ℕ, ◌+◌, ◌%◌, ◌≤◌, ◌<◌}
use native.Mathlib.Omega.{arith}
use lib.Dec.{eqb}
use lib.ListN.{length}
use Rattle.basics.proofs.Laws.Test.{never}
use Rattle.refusal.specs.Number.{refusal_plain}
use Rattle.refusal.specs.declared.Reason.TheVariants.{Room}
use Rattle.std.specs.Prelude.{Err}
use Rattle.refusal.specs.Checked.{refusal_in}
use Rattle.basics.specs.Below.{Bytes}
use Rattle.basics.specs.Each.{all}
use Rattle.record.proofs.Laws.Stored.{CleanRecord}
use Rattle.writing.specs.Layout.{packet_words}
use Rattle.anc.specs.Word.{is_sound}
use Rattle.anc.specs.Words.{narrow}
use Rattle.reading.specs.Reading.{index_of, protected_of}
use Rattle.desk.specs.declared.Desk.{Desk}
use Rattle.desk.specs.declared.Turn.{Turn}
use Rattle.desk.specs.Model.{Model, send_m}
use Rattle.desk.proofs.Laws.Model.{edit-sends, undo-sends, one-sent, none-sent}
use Rattle.sequence.specs.declared.Kind.{Kind}
use Rattle.sequence.specs.declared.Kind.TheVariants.{First, Next, Repeat}
use Rattle.sequence.specs.Sequence.{repeats_in}
use Rattle.follower.specs.declared.Held.{Held}
use Rattle.follower.specs.declared.Follower.{Follower}
use Rattle.follower.specs.declared.Followed.{Followed}
use Rattle.follower.specs.Follower.{counted, followed, opened, shown_by}
use Rattle.follower.proofs.Laws.Count.{counted_none, counted-again}
use Rattle.follower.proofs.Laws.Follow.{accepted-holds, Arrived, first_kind, repeat-kind, before-kind, next-kind}
use Rattle.promises.specs.Calls.{Opens, Sends, Begins, Follows}
use Rattle.promises.specs.History.{Turns, edits, undoes, History, opens, turns, sends}
use Rattle.promises.specs.Line.{Delivers, Heard, Fate, unsent, waiting, dropped, delivered, Scene, opening, turned, sent, lost, heard, Line, opens, turns, sends, no_room, drops, delivers, repeats, repeats-earlier, Agrees}
use Rattle.promises.proofs.Laws.Arrival.{Arrives, sent-long, sent-narrow, sent-sound, arrives}
use Rattle.promises.proofs.Laws.Calls.{begins-is, follows_is}
use Rattle.promises.proofs.Laws.Sent.{sent-as-they-stand}
use Rattle.promises.proofs.Laws.History.{stands, sent_is, history-bytes}

-- ---- what is so on every line

-- these are the words of the packet that was sent so many sends ago, the last one 1 ago, with this record; its number is counted from 0
record Numbered (m : Model) (words bytes : List ℕ) (ago : ℕ) : Type 0 where
  number : ℕ
  sends : m.sends ≡ number + ago
  are : words ≡ packet_words true (number % 16) bytes
  clean : CleanRecord bytes
  small : Bytes bytes

-- the packet sent last, and the one sent right before it
abbrev OnLine : Scene → Type 0
OnLine s = Numbered s.history s.latest.words s.latest.bytes 1

abbrev Earlier : Scene → Type 0
Earlier s = Numbered s.history s.earlier.words s.earlier.bytes 2

-- once the last one was delivered the follower stands at it, and shows the record that came last
record Delivered (s : Scene) (bytes : List ℕ) (h : Heard) : Type 0 where
  line : OnLine s
  begun : s.begun ≡ true
  level : s.gap ≡ 0
  accepted : refusal_in h ≡ none
  at : s.follower.held.at ≡ s.latest.bytes
  shown : shown_by s.follower ≡ bytes

abbrev Fared : Scene → Fate → Type 0
Fared s unsent = Unit {0}
Fared s waiting = OnLine s
Fared s dropped = Unit {0}
Fared s (delivered bytes h) = Delivered s bytes h

-- where the one before it was delivered: while the last one is on the line the follower stands at that, and once the last one was delivered that is the
-- record before, and the two are successive
record Ready (s : Scene) : Type 0 where
  earlier : Earlier s
  begun : s.begun ≡ true
  level : s.gap ≡ 0
  at : s.follower.held.at ≡ s.earlier.bytes

record Both (s : Scene) (h : Held) : Type 0 where
  earlier : Earlier s
  successive : h.successive ≡ true
  before : h.before ≡ s.earlier.bytes

abbrev ByLatest : Scene → Fate → Type 0
ByLatest s unsent = Unit {0}
ByLatest s waiting = Ready s
ByLatest s dropped = Unit {0}
ByLatest s (delivered bytes h) = Both s s.follower.held

abbrev WhereDelivered : Fate → Type 0 → Type 0
WhereDelivered unsent A = Unit {0}
WhereDelivered waiting A = Unit {0}
WhereDelivered dropped A = Unit {0}
WhereDelivered (delivered bytes h) A = A

still-delivered : (e : Fate) {A B : Type 0} → (A → B) → WhereDelivered e A → WhereDelivered e B
still-delivered unsent f x = tt
still-delivered waiting f x = tt
still-delivered dropped f x = tt
still-delivered (delivered bytes h) f x = f x

-- how many packets are on the line
abbrev on_line : Fate → ℕ
on_line unsent = 0
on_line waiting = 1
on_line dropped = 0
on_line (delivered bytes h) = 0

-- before the first delivery
record Before (s : Scene) : Type 0 where
  follower : s.follower ≡ opened
  missed : s.missed ≡ 0
  repeated : s.repeated ≡ 0

-- from the first delivery on: the follower stands at number `position`, and knows of `known` missed before it
record After (s : Scene) : Type 0 where
  position : ℕ
  known : ℕ
  started : s.follower.started ≡ true
  refused : s.follower.refused ≡ 0
  index : s.follower.held.ci ≡ position % 16
  sends : s.history.sends ≡ position + 1 + s.gap + on_line s.latest.fate
  counted-missed : s.follower.missed ≡ counted 0 known
  missed : s.missed ≡ known + s.gap
  repeated : s.follower.repeated ≡ counted 0 s.repeated

record Known (s : Scene) : Type 0 where
  desk : History s.desk s.history
  fared : Fared s s.latest.fate
  paired : WhereDelivered s.earlier.fate (ByLatest s s.latest.fate)
  before : s.begun ≡ false → Before s
  after : s.begun ≡ true → After s

-- ---- opening

open-known : {on : Bool} (t : Turn) (f : Follower) → Opens on t → Begins f → Known (opening t.desk f)
open-known t f O B =
    record {
      desk = opens O;
      fared = tt;
      paired = tt;
      before = λ e. record { follower = begins-is f B; missed = refl; repeated = refl };
      after = λ e. never (sym e);
    }

-- ---- an edit, an undo, a send that is refused for its room

-- an edit or an undo sends nothing
turn-sends : (d : Desk) (m : Model) (d' : Desk) (m' : Model) → Turns d m d' m' → m'.sends ≡ m.sends
turn-sends d m d' m' (edits {item = item} {bytes = bytes} E) = edit-sends item bytes m
turn-sends d m d' m' (undoes U) = undo-sends m.earlier m

-- nor does a send into room for another number of words
no-room-history : (d : Desk) (m : Model) (old : List ℕ) (t : Turn) (left : List ℕ) → History d m → (length old ≡ 262 → ⊥) → Sends d old t left → History t.desk m
no-room-history d m old t left H n S = subst (History t.desk) (none-sent (length old) m n) (sends H S)

module _ (s : Scene) (K : Known s) (d : Desk) (m : Model) (H : History d m) (same-sends : m.sends ≡ s.history.sends) where
  turned-number : {words bytes : List ℕ} {ago : ℕ} → Numbered s.history words bytes ago → Numbered m words bytes ago
  turned-number P = record { number = P.number; sends = same-sends ∙ P.sends; are = P.are; clean = P.clean; small = P.small }

  turned-fared : (f : Fate) → Fared s f → Fared (turned s d m) f
  turned-fared unsent x = tt
  turned-fared waiting x = turned-number x
  turned-fared dropped x = tt
  turned-fared (delivered bytes h) x =
      record { line = turned-number x.line; begun = x.begun; level = x.level; accepted = x.accepted; at = x.at; shown = x.shown }

  turned-paired : (f : Fate) → ByLatest s f → ByLatest (turned s d m) f
  turned-paired unsent x = tt
  turned-paired waiting x = record { earlier = turned-number x.earlier; begun = x.begun; level = x.level; at = x.at }
  turned-paired dropped x = tt
  turned-paired (delivered bytes h) x = record { earlier = turned-number x.earlier; successive = x.successive; before = x.before }

  turned-known : Known (turned s d m)
  turned-known =
      record {
        desk = H;
        fared = turned-fared s.latest.fate K.fared;
        paired = still-delivered s.earlier.fate (turned-paired s.latest.fate) K.paired;
        before = λ e. let B = K.before e in record { follower = B.follower; missed = B.missed; repeated = B.repeated };
        after = λ e.
            let A = K.after e in
            record {
              position = A.position;
              known = A.known;
              started = A.started;
              refused = A.refused;
              index = A.index;
              sends = same-sends ∙ A.sends;
              counted-missed = A.counted-missed;
              missed = A.missed;
              repeated = A.repeated;
            };
      }

-- ---- a send

none-waits : (f : Fate) → (f ≡ waiting → ⊥) → on_line f ≡ 0
none-waits unsent n = refl
none-waits waiting n = absurd (n refl)
none-waits dropped n = refl
none-waits (delivered bytes h) n = refl

module _ (s : Scene) (K : Known s) (free : s.latest.fate ≡ waiting → ⊥) (old : List ℕ) (t : Turn) (left : List ℕ) (n : length old ≡ 262) (S : Sends s.desk old t left) where
  abbrev m : Model
  m = s.history

  abbrev next : Scene
  next = sent s t.desk left

  sent-line : OnLine next
  sent-line =
      let stood = stands s.desk m K.desk in
      record {
        number = m.sends;
        sends = one-sent m;
        are = (sent_is s.desk m K.desk old t left S n).1;
        clean = stood.clean.present;
        small = (history-bytes s.desk m K.desk).present;
      }

  -- the follower stands at the packet before, where that was delivered
  sent-paired : (f : Fate) → Fared s f → WhereDelivered f (Ready next)
  sent-paired unsent x = tt
  sent-paired waiting x = tt
  sent-paired dropped x = tt
  sent-paired (delivered bytes h) x =
      let L = x.line in
      record {
        earlier = record { number = L.number; sends = omega (arith, one-sent m, L.sends); are = L.are; clean = L.clean; small = L.small };
        begun = x.begun;
        level = x.level;
        at = x.at;
      }

  sent-known : Known next
  sent-known =
      record {
        desk = subst (λ (k : ℕ). History t.desk (send_m k m)) n (sends K.desk S);
        fared = sent-line;
        paired = sent-paired s.latest.fate K.fared;
        before = λ e. let B = K.before e in record { follower = B.follower; missed = B.missed; repeated = B.repeated };
        after = λ e.
            let A = K.after e in
            record {
              position = A.position;
              known = A.known;
              started = A.started;
              refused = A.refused;
              index = A.index;
              sends = let z : on_line s.latest.fate ≡ 0 = none-waits s.latest.fate free in omega (arith, one-sent m, A.sends, z);
              counted-missed = A.counted-missed;
              missed = A.missed;
              repeated = A.repeated;
            };
      }

-- ---- a packet that is dropped

module _ (s : Scene) (K : Known s) (w : s.latest.fate ≡ waiting) where
  dropped-missed : (b : Bool) (k : ℕ) → s.begun ≡ b → s.missed ≡ k + s.gap → b ≡ true → cond s.begun (s.missed + 1) s.missed ≡ k + (s.gap + 1)
  dropped-missed b k e x y = rw (e ∙ y) (omega arith)

  lost-known : Known (lost s)
  lost-known =
      record {
        desk = K.desk;
        fared = tt;
        paired = still-delivered s.earlier.fate (λ x. tt) K.paired;
        before = λ e. let B = K.before e in record { follower = B.follower; missed = rw e B.missed; repeated = B.repeated };
        after = λ e.
            let A = K.after e in
            record {
              position = A.position;
              known = A.known;
              started = A.started;
              refused = A.refused;
              index = A.index;
              sends = let z : on_line s.latest.fate ≡ 1 = ap on_line w in omega (arith, A.sends, z);
              counted-missed = A.counted-missed;
              missed = dropped-missed s.begun A.known refl A.missed e;
              repeated = A.repeated;
            };
      }

-- ---- a delivery, of the packet sent last or of the one before it

module _ (s : Scene) (K : Known s) (L : OnLine s) (words bytes : List ℕ) (ago : ℕ) (P : Numbered s.history words bytes ago) (arrived : List ℕ) (D : Delivers words arrived)
    (a : Followed) (F : Follows s.follower arrived a) where
  abbrev f : Follower
  f = s.follower

  here : Arrives arrived (P.number % 16) bytes
  here = arrives (P.number % 16) bytes (omega arith) P.clean P.small arrived (subst (λ (l : List ℕ). Delivers l arrived) P.are D)

  answers : a ≡ followed f arrived
  answers = follows_is f arrived a F

  -- of kind k, with so many missed and repeated before it and by it, after which the follower stands at the packet sent last
  module _ (k : Kind) (m o known repeats : ℕ) (then : Held) (X : Arrived f arrived k m o then) (whole : f.refused ≡ 0) (em : f.missed ≡ counted 0 known)
      (er : f.repeated ≡ counted 0 repeats) (all-missed : known + m ≡ s.missed) (at : then.at ≡ s.latest.bytes) (index : then.ci ≡ L.number % 16) where
    abbrev s' : Scene
    s' = heard s bytes a (repeats + repeats_in k)

    arrived-known : WhereDelivered s.earlier.fate (Both s then) → Known s'
    arrived-known paired =
        let H = accepted-holds f arrived here.accepted in
        let held : a.follower.held ≡ then = ap (λ (x : Followed). x.follower.held) answers ∙ X.held in
        record {
          desk = K.desk;
          fared = record {
            line = L;
            begun = refl;
            level = refl;
            accepted = ap (λ (x : Followed). refusal_in x.heard) answers ∙ ap refusal_in X.heard;
            at = ap (λ (x : Held). x.at) held ∙ at;
            shown = ap (λ (x : Followed). shown_by x.follower) answers ∙ H.shown ∙ here.bytes;
          };
          paired = still-delivered s.earlier.fate (λ (B : Both s then). record {
            earlier = B.earlier;
            successive = ap (λ (x : Held). x.successive) held ∙ B.successive;
            before = ap (λ (x : Held). x.before) held ∙ B.before;
          }) paired;
          before = λ e. never e;
          after = λ e.
              record {
                position = L.number;
                known = s.missed;
                started = ap (λ (x : Followed). x.follower.started) answers ∙ H.started;
                refused = ap (λ (x : Followed). x.follower.refused) answers ∙ H.refused ∙ whole;
                index = ap (λ (x : Held). x.ci) held ∙ index;
                sends = omega (arith, L.sends);
                counted-missed =
                    ap (λ (x : Followed). x.follower.missed) answers ∙ X.missed ∙ ap (λ (n : ℕ). counted n m) em ∙ counted-again 0 known m ∙ ap (counted 0) all-missed;
                missed = omega arith;
                repeated = ap (λ (x : Followed). x.follower.repeated) answers ∙ X.repeated ∙ ap (λ (n : ℕ). counted n (repeats_in k)) er ∙ counted-again 0 repeats (repeats_in k);
              };
        }

-- ---- a new one

module _ (s : Scene) (K : Known s) (w : s.latest.fate ≡ waiting) (arrived : List ℕ) (D : Delivers s.latest.words arrived) (a : Followed) (F : Follows s.follower arrived a) where
  abbrev g : Follower
  g = s.follower

  L : OnLine s
  L = subst (Fared s) w K.fared

  new-here : Arrives arrived (L.number % 16) s.latest.bytes
  new-here = here s K L _ _ 1 L arrived D a F

  ready : WhereDelivered s.earlier.fate (Ready s)
  ready = subst (λ (x : Fate). WhereDelivered s.earlier.fate (ByLatest s x)) w K.paired

  -- the first one
  first-known : s.begun ≡ false → Known (heard s s.latest.bytes a s.repeated)
  unfolding opened
  first-known e =
      let B = K.before e in
      let fresh-missed : g.missed ≡ counted 0 0 = ap (λ (x : Follower). x.missed) B.follower ∙ sym (counted_none 0 (omega arith)) in
      let fresh-repeated : g.repeated ≡ counted 0 0 = ap (λ (x : Follower). x.repeated) B.follower ∙ sym (counted_none 0 (omega arith)) in
      let X = first_kind g arrived new-here.accepted (ap (λ (x : Follower). x.started) B.follower) in
      subst (λ (n : ℕ). Known (heard s s.latest.bytes a n)) (sym B.repeated)
      (arrived-known s K L _ _ 1 L arrived D a F First 0 0 0 0 _ X (ap (λ (x : Follower). x.refused) B.follower) fresh-missed fresh-repeated (sym B.missed) new-here.bytes new-here.index
      (still-delivered s.earlier.fate (λ (R : Ready s). never (sym R.begun ∙ e)) ready))

  -- a later one, after at most thirteen
  next_known : s.begun ≡ true → s.gap ≤ 13 → Known (heard s s.latest.bytes a s.repeated)
  next_known e few =
      let A = K.after e in
      let z : on_line s.latest.fate ≡ 1 = ap on_line w in
      let number : L.number ≡ A.position + 1 + s.gap = omega (arith, A.sends, L.sends, z) in
      let step : index_of arrived ≡ (g.held.ci + 1 + s.gap) % 16 = new-here.index ∙ omega (arith, number, A.index) in
      let X = next-kind g arrived new-here.accepted A.started (omega (arith, A.index)) s.gap few step in
      let kept : s.repeated + 0 ≡ s.repeated = omega arith in
      subst (λ (n : ℕ). Known (heard s s.latest.bytes a n)) kept
      (arrived-known s K L _ _ 1 L arrived D a F Next s.gap _ A.known s.repeated _ X A.refused A.counted-missed A.repeated (sym A.missed) new-here.bytes new-here.index
      (still-delivered s.earlier.fate (λ (R : Ready s). record { earlier = R.earlier; successive = ap (λ (n : ℕ). eqb n 0) R.level; before = R.at }) ready))

  new-known : (s.begun ≡ true → s.gap ≤ 13) → Known (heard s s.latest.bytes a s.repeated)
  new-known few = by s.begun refl
    where
      by : (b : Bool) → s.begun ≡ b → Known (heard s s.latest.bytes a s.repeated)
      by false e = first-known e
      by true e = next_known e (few e)

-- ---- one again

module _ (s : Scene) (K : Known s) (bytes : List ℕ) (h : Heard) (w : s.latest.fate ≡ delivered bytes h) where
  there : Delivered s bytes h
  there = subst (Fared s) w K.fared

  both : WhereDelivered s.earlier.fate (Both s s.follower.held)
  both = subst (λ (x : Fate). WhereDelivered s.earlier.fate (ByLatest s x)) w K.paired

  with-earlier : (bytes' : List ℕ) (h' : Heard) → s.earlier.fate ≡ delivered bytes' h' → Both s s.follower.held
  with-earlier bytes' h' w' = subst (λ (x : Fate). WhereDelivered x (Both s s.follower.held)) w' both

  standing : After s
  standing = K.after there.begun

  at_last : standing.position ≡ there.line.number
  at_last = let z : on_line s.latest.fate ≡ 0 = ap on_line w in omega (arith, standing.sends, there.line.sends, z, there.level)

  index_below : s.follower.held.ci < 16
  index_below = omega (arith, standing.index)

  -- a REPEAT, of either, after which all is as it was
  module _ (words again : List ℕ) (ago : ℕ) (P : Numbered s.history words again ago) (arrived : List ℕ) (D : Delivers words arrived) (a : Followed) (F : Follows s.follower arrived a)
      (X : Arrived s.follower arrived Repeat 0 0 s.follower.held) where
    repeat-known : Known (heard s again a (s.repeated + 1))
    repeat-known =
        arrived-known s K there.line words again ago P arrived D a F Repeat 0 0 standing.known s.repeated _ X standing.refused standing.counted-missed standing.repeated
        (omega (arith, standing.missed, there.level)) there.at (standing.index ∙ ap (λ (n : ℕ). n % 16) at_last) both

  -- the packet sent last
  latest-known : (arrived : List ℕ) → Delivers s.latest.words arrived → (a : Followed) → Follows s.follower arrived a → Known (heard s s.latest.bytes a (s.repeated + 1))
  latest-known arrived D a F =
      let l = there.line in
      let p = here s K l _ _ 1 l arrived D a F in
      repeat-known _ _ 1 l arrived D a F
      (repeat-kind s.follower arrived p.accepted standing.started index_below (p.index ∙ ap (λ (n : ℕ). n % 16) (sym at_last) ∙ sym standing.index) (p.bytes ∙ sym there.at))

  -- the packet sent right before it
  earlier-known : (bytes' : List ℕ) (h' : Heard) → s.earlier.fate ≡ delivered bytes' h' → (arrived : List ℕ) → Delivers s.earlier.words arrived
      → (a : Followed) → Follows s.follower arrived a → Known (heard s s.earlier.bytes a (s.repeated + 1))
  earlier-known bytes' h' w' arrived D a F =
      let B = with-earlier bytes' h' w' in
      let E = B.earlier in
      let p = here s K there.line _ _ 2 E arrived D a F in
      repeat-known _ _ 2 E arrived D a F
      (before-kind s.follower arrived p.accepted standing.started index_below (p.index ∙ omega (arith, standing.index, at_last, there.line.sends, E.sends)) B.successive (p.bytes ∙ sym B.before))

-- ---- every line

known : (s : Scene) → Line s → Known s
known s (opens {answer = t} {f = f} O B) = open-known t f O B
known s (turns {s = s₀} {d = d} {m = m} l T) = turned-known s₀ (known s₀ l) d m (turns (known s₀ l).desk T) (turn-sends s₀.desk s₀.history d m T)
known s (sends {s = s₀} {old = old} {answer = t} {left = left} l free n S) = sent-known s₀ (known s₀ l) free old t left n S
known s (no_room {s = s₀} {old = old} {answer = t} {left = left} l n S) =
    turned-known s₀ (known s₀ l) t.desk s₀.history (no-room-history s₀.desk s₀.history old t left (known s₀ l).desk n S) refl
known s (drops {s = s₀} l w) = lost-known s₀ (known s₀ l) w
known s (delivers {s = s₀} {arrived = arrived} {answer = a} l w few D F) = new-known s₀ (known s₀ l) w arrived D a F few
known s (repeats {s = s₀} {bytes = bytes} {h = h} {arrived = arrived} {answer = a} l w D F) = latest-known s₀ (known s₀ l) bytes h w arrived D a F
known s (repeats-earlier {s = s₀} {bytes = bytes} {bytes' = bytes'} {h = h} {h' = h'} {arrived = arrived} {answer = a} l w w' D F) =
    earlier-known s₀ (known s₀ l) bytes h w bytes' h' w' arrived D a F

-- a send into a buffer of another length is refused, on every line
pub no-room-refused : (s : Scene) → Line s → (old : List ℕ) (t : Turn) (left : List ℕ) → Sends s.desk old t left → (length old ≡ 262 → ⊥)
    → t.checked ≡ Err (refusal_plain Room)
no-room-refused s l old t left S n = (sent-as-they-stand s.desk old t left S).no_room n

-- the packet that waits on a line, and one that may be repeated, has 254 protected words of ten bits each, and sound
pub record Ordinary (words : List ℕ) : Type 0 where
  pub long : length (protected_of words) ≡ 254
  pub ten_bits : narrow (protected_of words) ≡ true
  pub sound : all is_sound (protected_of words) ≡ true

ordinary : (m : Model) (words bytes : List ℕ) (ago : ℕ) → Numbered m words bytes ago → Ordinary words
ordinary m words bytes ago P =
    let number = P.number in
    let hc : number % 16 ≤ 15 = omega arith in
    rw P.are
    (record {
      long = sent-long (number % 16) bytes hc P.clean P.small;
      ten_bits = sent-narrow (number % 16) bytes hc P.clean P.small;
      sound = sent-sound (number % 16) bytes hc P.clean P.small;
    })

pub waiting-ordinary : (s : Scene) → Line s → s.latest.fate ≡ waiting → Ordinary s.latest.words
waiting-ordinary s l w = ordinary _ _ _ 1 (subst (Fared s) w (known s l).fared)

module _ (s : Scene) (l : Line s) (bytes : List ℕ) (h : Heard) (w : s.latest.fate ≡ delivered bytes h) where
  pub latest-ordinary : Ordinary s.latest.words
  latest-ordinary = ordinary _ _ _ 1 (there s (known s l) bytes h w).line

  pub earlier-ordinary : (bytes' : List ℕ) (h' : Heard) → s.earlier.fate ≡ delivered bytes' h' → Ordinary s.earlier.words
  earlier-ordinary bytes' h' w' = ordinary _ _ _ 2 (with-earlier s (known s l) bytes h w bytes' h' w').earlier

  -- at each delivery: accepted, the record shown is the one that was sent, and the true counts up to the ceiling
  pub demand-3 : Agrees s bytes h
  demand-3 =
      let X = there s (known s l) bytes h w in
      let A = standing s (known s l) bytes h w in
      record {
        accepted = X.accepted;
        refused = A.refused;
        shown = X.shown;
        missed = A.counted-missed ∙ ap (counted 0) (omega (arith, A.missed, X.level));
        repeated = A.repeated;
      }
