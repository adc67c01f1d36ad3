-- The line from a desk to a follower: what may happen on it, and what is true of it.
-- Assumes nothing.
use Rattle.std.specs.Prelude.{◌≡◌, Bool, true, false, cond, List, [], ◌++◌, ℕ, ◌+◌, ◌≤◌, length, take, drop, Result}
use Rattle.std.proofs.Math.Option.{none}
use Rattle.anc.specs.Words.{narrow}
use Rattle.refusal.specs.declared.Refusal.{Refusal}
use Rattle.refusal.specs.Checked.{refusal_in}
use Rattle.repair.specs.Reach.{damage}
use Rattle.reading.specs.Reading.{protected_of}
use Rattle.desk.specs.declared.Desk.{Desk}
use Rattle.desk.specs.declared.Turn.{Turn}
use Rattle.desk.specs.Model.{Model, fresh, send_m}
use Rattle.follower.specs.declared.Follower.{Follower}
use Rattle.follower.specs.declared.Followed.{Followed}
use Rattle.follower.specs.declared.Arrival.{Arrival}
use Rattle.follower.specs.Follower.{counted, shown_by}
use Rattle.promises.specs.Calls.{Opens, Sends, Begins, Follows}
use Rattle.promises.specs.History.{Turns}

-- what a delivery may do to a packet: its 254 protected words are changed to any ten-bit values with 2e + f at most 6 against the sent packet, and
-- nothing else: f of them are then not sound, and of the others e carry another byte
pub record Delivers (sent arrived : List ℕ) : Type 0 where
  pub protected : List ℕ
  pub long : length protected ≡ 254
  pub ten_bits : narrow protected ≡ true
  pub few : damage protected (protected_of sent) ≤ 6
  pub rest : arrived ≡ take 7 sent ++ protected ++ drop 261 sent

-- what a follower hears of a packet
abbrev pub Heard : Type 0
Heard = Result Arrival Refusal

-- how a packet has fared: there is none; it is on the line; it was dropped; it was delivered, and of the latest delivery, its own or one of the packet
-- sent right before it: the record sent in that packet, and what was heard
pub data Fate : Type 0 where
  unsent : Fate
  waiting : Fate
  dropped : Fate
  delivered : List ℕ → Heard → Fate

-- a packet that was sent: the record, the words, and how they fared
pub record Sent : Type 0 where
  pub bytes : List ℕ
  pub words : List ℕ
  pub fate : Fate

-- the desk with what its history gives, the follower, and what is true of the line between them
pub record Scene : Type 0 where
  pub desk : Desk
  pub history : Model
  pub follower : Follower
  -- the packet that was sent last, and the one sent right before it
  pub latest : Sent
  pub earlier : Sent
  -- has there been a delivery? how many packets were dropped since the latest, how many since the first, and how many deliveries were
  -- repeats
  pub begun : Bool
  pub gap : ℕ
  pub missed : ℕ
  pub repeated : ℕ

-- no packet was sent
abbrev pub nothing : Sent
nothing = record { bytes = []; words = []; fate = unsent }

-- the desk that an opening hands back and a fresh follower
abbrev pub opening : Desk → Follower → Scene
opening d f =
    record {
      desk = d;
      history = fresh;
      follower = f;
      latest = nothing;
      earlier = nothing;
      begun = false;
      gap = 0;
      missed = 0;
      repeated = 0;
    }

-- the desk is handed back and nothing is sent: an edit, an undo, or a send that is refused for its room
abbrev pub turned : Scene → Desk → Model → Scene
turned s d m =
    record {
      desk = d;
      history = m;
      follower = s.follower;
      latest = s.latest;
      earlier = s.earlier;
      begun = s.begun;
      gap = s.gap;
      missed = s.missed;
      repeated = s.repeated;
    }

-- the words are on the line, with the record that the desk's history gives
abbrev pub sent : Scene → Desk → List ℕ → Scene
sent s d left =
    record {
      desk = d;
      history = send_m 262 s.history;
      follower = s.follower;
      latest = record { bytes = s.history.present; words = left; fate = waiting };
      earlier = s.latest;
      begun = s.begun;
      gap = s.gap;
      missed = s.missed;
      repeated = s.repeated;
    }

-- the packet that was sent last now fares so
abbrev pub faring : Scene → Fate → Sent
faring s fate = record { bytes = s.latest.bytes; words = s.latest.words; fate = fate }

-- the packet is lost; it is missed where there was a delivery before it
abbrev pub lost : Scene → Scene
lost s =
    record {
      desk = s.desk;
      history = s.history;
      follower = s.follower;
      latest = faring s dropped;
      earlier = s.earlier;
      begun = s.begun;
      gap = s.gap + 1;
      missed = cond s.begun (s.missed + 1) s.missed;
      repeated = s.repeated;
    }

-- the packet of this record arrives, after so many repeats in all
abbrev pub heard : Scene → List ℕ → Followed → ℕ → Scene
heard s bytes a repeats =
    record {
      desk = s.desk;
      history = s.history;
      follower = a.follower;
      latest = faring s (delivered bytes a.heard);
      earlier = s.earlier;
      begun = true;
      gap = 0;
      missed = s.missed;
      repeated = repeats;
    }

-- Every line: packets are sent one after the other; each is dropped, or delivered after at most thirteen that were dropped in a row since
-- the delivery before. Once it was delivered, it may be delivered again, and so may the packet sent right before it where that was
-- delivered too, in any mixture and any number of times, before the next one is sent. A send into a buffer of other than 262 words may be tried at any
-- time, also while a packet is on the line: it is refused, and no more than the desk is handed back.
pub data Line : Scene → Type 0 where
  opens : {on : Bool} {answer : Turn} {f : Follower} → Opens on answer → Begins f → Line (opening answer.desk f)
  turns : {s : Scene} {d : Desk} {m : Model} → Line s → Turns s.desk s.history d m → Line (turned s d m)
  sends : {s : Scene} {old : List ℕ} {answer : Turn} {left : List ℕ} → Line s → (s.latest.fate ≡ waiting → ⊥) → length old ≡ 262
      → Sends s.desk old answer left → Line (sent s answer.desk left)
  no_room : {s : Scene} {old : List ℕ} {answer : Turn} {left : List ℕ} → Line s → (length old ≡ 262 → ⊥) → Sends s.desk old answer left
      → Line (turned s answer.desk s.history)
  drops : {s : Scene} → Line s → s.latest.fate ≡ waiting → Line (lost s)
  delivers : {s : Scene} {arrived : List ℕ} {answer : Followed} → Line s → s.latest.fate ≡ waiting → (s.begun ≡ true → s.gap ≤ 13)
      → Delivers s.latest.words arrived → Follows s.follower arrived answer → Line (heard s s.latest.bytes answer s.repeated)
  repeats : {s : Scene} {bytes : List ℕ} {h : Heard} {arrived : List ℕ} {answer : Followed} → Line s → s.latest.fate ≡ delivered bytes h
      → Delivers s.latest.words arrived → Follows s.follower arrived answer → Line (heard s s.latest.bytes answer (s.repeated + 1))
  repeats-earlier : {s : Scene} {bytes bytes' : List ℕ} {h h' : Heard} {arrived : List ℕ} {answer : Followed} → Line s
      → s.latest.fate ≡ delivered bytes h → s.earlier.fate ≡ delivered bytes' h'
      → Delivers s.earlier.words arrived → Follows s.follower arrived answer → Line (heard s s.earlier.bytes answer (s.repeated + 1))

-- what is claimed at a delivery of the packet of this record: it is accepted, as all before it were, the record shown is this one, and the counts
-- are the true ones, up to the ceiling
pub record Agrees (s : Scene) (bytes : List ℕ) (h : Heard) : Type 0 where
  pub accepted : refusal_in h ≡ none
  pub refused : s.follower.refused ≡ 0
  pub shown : shown_by s.follower ≡ bytes
  pub missed : s.follower.missed ≡ counted 0 s.missed
  pub repeated : s.follower.repeated ≡ counted 0 s.repeated
