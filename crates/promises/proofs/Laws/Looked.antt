-- The record shown, of the calls: after a packet that is accepted it is the one that arrived, whatever its kind; and over a line it is the one that was
-- sent in the packet of the latest delivery.
-- Assumes nothing.
use mathlib.Core.Path.{◌≡◌, ap, ◌∙◌}
use mathlib.Core.List.{List}
use mathlib.Core.Option.{none}
use Prim.Native.Nat.{ℕ}
use borrow.Author.Tests.{eq-eqb}
use lib.ListN.{length}
use Rattle.reading.specs.Reading.{read_record}
use Rattle.follower.specs.declared.Follower.{Follower}
use Rattle.follower.specs.declared.Followed.{Followed}
use Rattle.refusal.specs.Checked.{refusal_in}
use Rattle.follower.specs.Follower.{shown_by, shown_refusal, shown_leaves}
use Rattle.follower.proofs.Laws.Follow.{accepted-holds}
use Rattle.promises.specs.Calls.{Follows}
use Rattle.promises.specs.Line.{Heard, Scene, Line, delivered}
use Rattle.promises.specs.Shown.{Shown}
use Rattle.promises.proofs.Laws.Calls.{follows_is, looks-is, looks-into-is, looks-into-leaves}
use Rattle.promises.proofs.Laws.Packets.{follow-tells}
use Rattle.promises.proofs.Laws.Line.{demand-3}

-- what the calls answer and leave is the definition's
shown : (f : Follower) (bytes : List ℕ) → shown_by f ≡ bytes → Shown f bytes
unfolding shown_refusal shown_leaves
shown f bytes e =
    record {
      looks = λ r S. looks-is f r S ∙ e;
      looks_into = λ old a left S n. (
        looks-into-is f old a left S ∙ rw (eq-eqb (length old) 248 n),
        looks-into-leaves f old a left S ∙ rw (eq-eqb (length old) 248 n) e,
      );
    }

-- at any follower, and whatever the kind, the record shown is the arrived one
pub arrived-shown : (f : Follower) (words : List ℕ) (a : Followed) → Follows f words a → refusal_in a.heard ≡ none → Shown a.follower (read_record words)
arrived-shown f words a F ok =
    shown a.follower (read_record words)
    (ap (λ (x : Followed). shown_by x.follower) (follows_is f words a F) ∙ (accepted-holds f words (follow-tells f words a F ∙ ok)).shown)

-- demand 3, of the calls
pub line-shown : (s : Scene) (bytes : List ℕ) (h : Heard) → Line s → s.latest.fate ≡ delivered bytes h → Shown s.follower bytes
line-shown s bytes h l w = shown s.follower bytes (demand-3 s l bytes h w).shown
