-- What a follower is and has heard after a packet: refused, or the first one, the next one, a repeat or a conflict.
-- Assumes nothing.
use mathlib.Core.Path.{◌≡◌, refl, sym, ap, ◌∙◌}
use mathlib.Core.Bool.{Bool, true, false, cond, not, ◌&&◌}
use mathlib.Core.List.{List}
use mathlib.Core.Option.{Option, none, some, some-ne-none}
use Prim.Native.Nat.{ℕ, suc, ◌+◌, ◌%◌, ◌≤◌, ◌<◌}
use Rattle.std.specs.Prelude.{Ok, Err}
use native.Mathlib.Omega.{arith}
use lib.Dec.{eqb}
use lib.ListN.{replicate}
use Rattle.refusal.specs.Checked.{refusal_in}
use Rattle.refusal.specs.declared.Refusal.{Refusal}
use Rattle.basics.specs.Each.{same}
use Rattle.basics.proofs.Laws.Test.{never}
use Rattle.basics.proofs.Laws.Each.{same-equal, same_self, same-other}
use Rattle.sequence.specs.declared.Kind.{Kind}
use Rattle.sequence.specs.declared.Kind.TheVariants.{First, Next, Repeat, Conflict}
use Rattle.sequence.specs.Sequence.{step_of, kind_of, missed_of, repeats_in, conflicts_in}
use Rattle.sequence.specs.Onsets.{onsets_of, onsets_after}
use Rattle.sequence.proofs.Laws.Sequence.{step_same, step-on}
use Rattle.reading.specs.declared.Packet.{Packet}
use Rattle.reading.specs.Reading.{index_of, read_fixed, read_refusal, read_record}
use Rattle.reading.specs.Answer.{packet_of}
use Rattle.follower.specs.declared.Arrival.{Arrival}
use Rattle.follower.specs.declared.Held.{Held}
use Rattle.follower.specs.declared.Follower.{Follower}
use Rattle.follower.specs.declared.Followed.{Followed}
use Rattle.follower.specs.Follower.{ceiling, counted, step_to, before_again, arrived_as, arrival_of, held_by, follower_after, accepts, refused_after, refuses, followed_by, followed, opened, shown_by}
use Rattle.follower.proofs.Laws.Count.{counted-le}
use Rattle.follower.proofs.Laws.Again.{Again, again-so, so-again, not-again, again-kind, other-kind, onsets-self}

-- ---- a packet that is refused

-- nothing but the count of refusals moves, and the answer is the refusal
pub refused-alone : (f : Follower) (ws : List ℕ) (why : Refusal) → read_refusal ws ≡ some why → followed f ws ≡ record { follower = refused_after f; heard = Err why }
unfolding followed refuses
refused-alone f ws why e = ap (λ (o : Option Refusal). followed_by o f (packet_of ws) (read_record ws)) e

-- the refusal that is heard is the one that the rules give
pub refusal-heard : (f : Follower) (ws : List ℕ) → refusal_in (followed f ws).heard ≡ read_refusal ws
unfolding followed refuses accepts
refusal-heard f ws = by (read_refusal ws)
  where
    by : (o : Option Refusal) → refusal_in (followed_by o f (packet_of ws) (read_record ws)).heard ≡ o
    by none = refl
    by (some why) = refl

-- where the answer tells a refusal, that is so
pub refused-said : (f : Follower) (ws : List ℕ) (why : Refusal) → refusal_in (followed f ws).heard ≡ some why → (followed f ws).follower ≡ refused_after f
unfolding followed refuses accepts
refused-said f ws why = by (read_refusal ws)
  where
    by : (o : Option Refusal) → refusal_in (followed_by o f (packet_of ws) (read_record ws)).heard ≡ some why → (followed_by o f (packet_of ws) (read_record ws)).follower ≡ refused_after f
    by none e = absurd (some-ne-none why (sym e))
    by (some w) e = refl

-- ---- a packet that is accepted

-- what is so then, whatever its kind: the record shown is the arrived one
pub record Holds (f : Follower) (ws : List ℕ) : Type 0 where
  pub started : (followed f ws).follower.started ≡ true
  pub shown : shown_by (followed f ws).follower ≡ read_record ws
  pub accepted : (followed f ws).follower.accepted ≡ counted f.accepted 1
  pub refused : (followed f ws).follower.refused ≡ f.refused

-- an arrival of kind k, after m missed ones, with these onsets: what is heard, what is held then, and what is counted
pub record Arrived (f : Follower) (ws : List ℕ) (k : Kind) (m o : ℕ) (then : Held) : Type 0 where
  pub heard : (followed f ws).heard ≡ Ok (record { kind = k; ci = index_of ws; fixed = read_fixed ws; missed = m; onsets = o })
  pub held : (followed f ws).follower.held ≡ then
  pub repeated : (followed f ws).follower.repeated ≡ counted f.repeated (repeats_in k)
  pub conflicting : (followed f ws).follower.conflicting ≡ counted f.conflicting (conflicts_in k)
  pub missed : (followed f ws).follower.missed ≡ counted f.missed m

-- where it is not the one before, the record at the position is then the arrived one: at REPEAT it was
at-arrived : (started level equal : Bool) (h : Held) (a : Arrival) (arrived : List ℕ) → (equal ≡ true → h.at ≡ arrived)
    → (held_by (cond started (cond level (cond equal Repeat Conflict) Next) First) h a arrived).at ≡ arrived
at-arrived false level equal h a arrived e = refl
at-arrived true false equal h a arrived e = refl
at-arrived true true false h a arrived e = refl
at-arrived true true true h a arrived e = e refl

module _ (f : Follower) (ws : List ℕ) (ok : read_refusal ws ≡ none) where
  abbrev p : Packet
  p = packet_of ws

  abbrev r : List ℕ
  r = read_record ws

  taken : followed f ws ≡ accepts f p r
  unfolding followed
  taken = ap (λ (o : Option Refusal). followed_by o f p r) ok

  shown-arrived : shown_by (accepts f p r).follower ≡ r
  unfolding shown_by accepts follower_after arrival_of arrived_as kind_of
  shown-arrived = by (before_again f p r) refl
    where
      by : (b : Bool) → before_again f p r ≡ b → shown_by (follower_after f (arrival_of f p r) b r) ≡ r
      by true e = rw e (again-so f p r e).equal
      by false e = rw e (at-arrived f.started (eqb (step_to f p) 0) (same f.held.at r) f.held _ r (same-equal _ _))

  pub accepted-holds : Holds f ws
  unfolding accepts follower_after
  accepted-holds =
      record {
        started = ap (λ (x : Followed). x.follower.started) taken;
        shown = ap (λ (x : Followed). shown_by x.follower) taken ∙ shown-arrived;
        accepted = ap (λ (x : Followed). x.follower.accepted) taken;
        refused = ap (λ (x : Followed). x.follower.refused) taken;
      }

  -- by whether it is the one before, its kind and what it missed
  module _ (again : Bool) (k : Kind) (m o : ℕ) (ea : before_again f p r ≡ again) (ek : arrived_as f p r ≡ k) (em : missed_of k (step_to f p) ≡ m)
      (eo : onsets_after (f.started && not again) f.held.at r ≡ o) where
    abbrev a : Arrival
    a = record { kind = k; ci = index_of ws; fixed = read_fixed ws; missed = m; onsets = o }

    arrival-is : arrival_of f p r ≡ a
    unfolding arrival_of packet_of
    arrival-is = rw (ek, ea, em, eo)

    arrived : Arrived f ws k m o (held_by k f.held a r)
    unfolding accepts follower_after
    arrived =
        let e : followed f ws ≡ record { follower = follower_after f a again r; heard = Ok a } = taken ∙ (λ i. record { follower = follower_after f (arrival-is i) (ea i) r; heard = Ok (arrival-is i) }) in
        record {
          heard = ap (λ (x : Followed). x.heard) e;
          held = ap (λ (x : Followed). x.follower.held) e;
          repeated = ap (λ (x : Followed). x.follower.repeated) e;
          conflicting = ap (λ (x : Followed). x.follower.conflicting) e;
          missed = ap (λ (x : Followed). x.follower.missed) e;
        }

  -- FIRST has no record before it
  pub first_kind : f.started ≡ false → Arrived f ws First 0 0 (record { at = r; ci = index_of ws; before = replicate 248 0; successive = false })
  unfolding arrived_as kind_of onsets_after
  first_kind s =
      let n : before_again f p r ≡ false = not-again f p r (λ A. never (sym A.started ∙ s)) in
      arrived false First 0 0 n (rw (n, s)) refl (rw s)

  module _ (s : f.started ≡ true) (h : f.held.ci < 16) where
    -- the onsets against the record at the position
    abbrev set-now : ℕ
    set-now = onsets_of f.held.at r

    set_is : onsets_after (f.started && not false) f.held.at r ≡ set-now
    unfolding onsets_after
    set_is = rw s

    at_once : index_of ws ≡ f.held.ci → step_to f p ≡ 0
    unfolding step_to packet_of
    at_once e = ap (step_of f.held.ci) e ∙ step_same f.held.ci h

    level : step_to f p ≡ 0 → before_again f p r ≡ false
    level z = not-again f p r (λ A. omega (arith, A.step))

    -- REPEAT of the record at the position: nothing changes
    pub repeat-kind : index_of ws ≡ f.held.ci → r ≡ f.held.at → Arrived f ws Repeat 0 0 f.held
    unfolding arrived_as kind_of
    repeat-kind e q =
        let z = at_once e in
        arrived false Repeat 0 0 (level z) (rw (level z, z, s, q, same_self f.held.at)) refl (set_is ∙ ap (onsets_of f.held.at) q ∙ onsets-self f.held.at)

    -- CONFLICT replaces the record at the position alone
    pub conflict-kind : index_of ws ≡ f.held.ci → (f.held.at ≡ r → ⊥)
        → Arrived f ws Conflict 0 set-now (record { at = r; ci = index_of ws; before = f.held.before; successive = f.held.successive })
    unfolding arrived_as kind_of
    conflict-kind e n =
        let z = at_once e in
        arrived false Conflict 0 set-now (level z) (rw (level z, z, s, same-other f.held.at r n)) refl set_is

    -- d, where so many went by unheard
    on : (m : ℕ) → m ≤ 14 → index_of ws ≡ (f.held.ci + 1 + m) % 16 → step_to f p ≡ suc m
    unfolding step_to packet_of
    on m l e = ap (step_of f.held.ci) e ∙ step-on f.held.ci m h l

    -- REPEAT of the record before: nothing changes, nothing is missed, and there are no onsets
    pub before-kind : index_of ws ≡ (f.held.ci + 15) % 16 → f.held.successive ≡ true → r ≡ f.held.before → Arrived f ws Repeat 0 0 f.held
    unfolding onsets_after
    before-kind e u q =
        let A : Again f p r = record { started = s; successive = u; step = on 14 (omega arith) (e ∙ omega arith); equal = sym q } in
        arrived true Repeat 0 0 (so-again f p r A) (again-kind f p r A) refl (rw s)

    -- NEXT, after m that were missed: the record at the position becomes the one before, successive exactly where none was
    abbrev NextAfter : ℕ → Type 0
    NextAfter m = Arrived f ws Next m set-now (record { at = r; ci = index_of ws; before = f.held.at; successive = eqb m 0 })

    next-by : (m : ℕ) → m ≤ 14 → index_of ws ≡ (f.held.ci + 1 + m) % 16 → (Again f p r → ⊥) → NextAfter m
    next-by m l e n =
        let d = on m l e in
        arrived false Next m set-now (not-again f p r n) (other-kind f p r m n d s) (omega (arith, d)) set_is

    -- after at most thirteen, whatever the records
    pub next-kind : (m : ℕ) → m ≤ 13 → index_of ws ≡ (f.held.ci + 1 + m) % 16 → NextAfter m
    next-kind m l e = next-by m (omega arith) e (λ A. omega (arith, A.step, on m (omega arith) e))

    -- one below the position, where the two were not successive or the record is not the one before
    pub fourteen-kind : index_of ws ≡ (f.held.ci + 15) % 16 → (f.held.successive ≡ true → f.held.before ≡ r → ⊥) → NextAfter 14
    fourteen-kind e n = next-by 14 (omega arith) (e ∙ omega arith) (λ A. n A.successive A.equal)

-- ---- no count passes the ceiling

pub record Within (f : Follower) : Type 0 where
  pub accepted : f.accepted ≤ ceiling
  pub repeated : f.repeated ≤ ceiling
  pub conflicting : f.conflicting ≤ ceiling
  pub missed : f.missed ≤ ceiling
  pub refused : f.refused ≤ ceiling

pub opened-within : Within opened
unfolding opened
opened-within =
    record { accepted = omega arith; repeated = omega arith; conflicting = omega arith; missed = omega arith; refused = omega arith }

within_by : (o : Option Refusal) (f : Follower) (p : Packet) (arrived : List ℕ) → Within f → Within (followed_by o f p arrived).follower
unfolding accepts refuses follower_after refused_after
within_by none f p arrived w =
    record {
      accepted = counted-le f.accepted 1;
      repeated = counted-le f.repeated _;
      conflicting = counted-le f.conflicting _;
      missed = counted-le f.missed _;
      refused = w.refused;
    }
within_by (some why) f p arrived w =
    record {
      accepted = w.accepted;
      repeated = w.repeated;
      conflicting = w.conflicting;
      missed = w.missed;
      refused = counted-le f.refused 1;
    }

-- whatever the packets, a follower that was opened stays so; then `counted_none` says that what counts nothing moves nothing
pub followed-within : (f : Follower) (ws : List ℕ) → Within f → Within (followed f ws).follower
unfolding followed
followed-within f ws w = within_by (read_refusal ws) f (packet_of ws) (read_record ws) w
