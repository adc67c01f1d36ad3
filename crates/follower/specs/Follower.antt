-- The follower: what is counted, what the follower is and has heard after a packet, and which record it shows.
-- Assumes nothing.
use Rattle.std.specs.Prelude.{Bool, true, false, cond, not, ◌&&◌, List, ℕ, ◌+◌, eqb, leb, length, replicate, Result, Ok, Err}
use Rattle.std.proofs.Math.Option.{Option, none, some}
use Rattle.refusal.specs.declared.Refusal.{Refusal}
use Rattle.refusal.specs.declared.Reason.TheVariants.{Room}
use Rattle.refusal.specs.Number.{refusal_plain}
use Rattle.refusal.specs.Chain.{require, passed, left_by}
use Rattle.basics.specs.Each.{same}
use Rattle.sequence.specs.declared.Kind.{Kind}
use Rattle.sequence.specs.declared.Kind.TheVariants.{First, Next, Repeat, Conflict}
use Rattle.sequence.specs.Sequence.{step_of, kind_of, missed_of, repeats_in, conflicts_in}
use Rattle.sequence.specs.Onsets.{onsets_after}
use Rattle.reading.specs.declared.Packet.{Packet}
use Rattle.reading.specs.Reading.{read_refusal, read_record}
use Rattle.reading.specs.Answer.{packet_of}
use Rattle.follower.specs.declared.Arrival.{Arrival}
use Rattle.follower.specs.declared.Held.{Held}
use Rattle.follower.specs.declared.Follower.{Follower}
use Rattle.follower.specs.declared.Followed.{Followed}

-- ---- what an answer says, for every case of it

-- the arrival, whose kind is FIRST, NEXT, REPEAT or CONFLICT
abbrev pub arrival_in : Result Arrival Refusal → Option Arrival
arrival_in (Ok a) = some a
arrival_in (Err why) = none

-- ---- counts

-- where a count stops
abbrev pub ceiling : ℕ
ceiling = 4294967295

-- n and k more, up to the ceiling
unfoldable pub counted : ℕ → ℕ → ℕ
counted n k = cond (leb (n + k) ceiling) (n + k) ceiling

-- ---- a packet that is accepted

-- d: its index less that of the position, modulo 16
unfoldable pub step_to : Follower → Packet → ℕ
step_to f p = step_of f.held.ci p.ci

-- is it the one before again? d is 15, the two were successive, and the record is equal to the one before
unfoldable pub before_again : Follower → Packet → List ℕ → Bool
before_again f p arrived = f.started && f.held.successive && eqb (step_to f p) 15 && same f.held.before arrived

-- REPEAT, where it is the one before; else by d and by whether the record is equal to the one at the position
unfoldable pub arrived_as : Follower → Packet → List ℕ → Kind
arrived_as f p arrived = cond (before_again f p arrived) Repeat (kind_of f.started (step_to f p) (same f.held.at arrived))

-- what the packet brings; the onsets are against the record at the position, and there are none where it is the one before
unfoldable pub arrival_of : Follower → Packet → List ℕ → Arrival
arrival_of f p arrived =
    record {
      kind = arrived_as f p arrived;
      ci = p.ci;
      fixed = p.fixed;
      missed = missed_of (arrived_as f p arrived) (step_to f p);
      onsets = onsets_after (f.started && not (before_again f p arrived)) f.held.at arrived;
    }

-- what is held then, by the kind: FIRST has no record before it; at NEXT the record at the position becomes the one before, and the two are
-- successive exactly where nothing was missed; REPEAT changes nothing; CONFLICT replaces the record at the position alone
abbrev pub held_by : Kind → Held → Arrival → List ℕ → Held
held_by First h a arrived = record { at = arrived; ci = a.ci; before = replicate 248 0; successive = false }
held_by Next h a arrived = record { at = arrived; ci = a.ci; before = h.at; successive = eqb a.missed 0 }
held_by Repeat h a arrived = h
held_by Conflict h a arrived = record { at = arrived; ci = a.ci; before = h.before; successive = h.successive }

-- the follower then; `again` says whether the packet is the one before, which is then the one that is shown
unfoldable pub follower_after : Follower → Arrival → Bool → List ℕ → Follower
follower_after f a again arrived =
    record {
      started = true;
      held = held_by a.kind f.held a arrived;
      back = again;
      accepted = counted f.accepted 1;
      repeated = counted f.repeated (repeats_in a.kind);
      conflicting = counted f.conflicting (conflicts_in a.kind);
      missed = counted f.missed a.missed;
      refused = f.refused;
    }

unfoldable pub accepts : Follower → Packet → List ℕ → Followed
accepts f p arrived =
    record {
      follower = follower_after f (arrival_of f p arrived) (before_again f p arrived) arrived;
      heard = Ok (arrival_of f p arrived);
    }

-- ---- a packet that is refused

-- the follower then: the count of refusals changes, and nothing else
unfoldable pub refused_after : Follower → Follower
refused_after f =
    record {
      started = f.started;
      held = f.held;
      back = f.back;
      accepted = f.accepted;
      repeated = f.repeated;
      conflicting = f.conflicting;
      missed = f.missed;
      refused = counted f.refused 1;
    }

unfoldable pub refuses : Follower → Refusal → Followed
refuses f why = record { follower = refused_after f; heard = Err why }

-- ---- the calls

-- the refusal where there is one, else the packet and its record
abbrev pub followed_by : Option Refusal → Follower → Packet → List ℕ → Followed
followed_by none f p arrived = accepts f p arrived
followed_by (some why) f p arrived = refuses f why

-- what follows on some words
unfoldable pub followed : Follower → List ℕ → Followed
followed f words = followed_by (read_refusal words) f (packet_of words) (read_record words)

-- nothing has arrived
unfoldable pub opened : Follower
opened =
    record {
      started = false;
      held = record { at = replicate 248 0; ci = 0; before = replicate 248 0; successive = false };
      back = false;
      accepted = 0;
      repeated = 0;
      conflicting = 0;
      missed = 0;
      refused = 0;
    }

-- ---- the record shown

-- one of the two
unfoldable pub shown_by : Follower → List ℕ
shown_by f = cond f.back f.held.before f.held.at

-- 23: room for so many bytes
unfoldable pub shown_refusal : ℕ → Option Refusal
shown_refusal room = require (eqb room 248) (refusal_plain Room) passed

-- what is left in the lent room: the record shown, or what was there
unfoldable pub shown_leaves : Follower → List ℕ → List ℕ
shown_leaves f old = left_by (shown_refusal (length old)) (shown_by f) old
