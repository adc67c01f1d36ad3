-- `follower::Follower::follow` meets its contract: what reading answered and left says what follows.
-- Assumes nothing.
use mathlib.Core.Path.{refl, ◌∙◌}
use lib.ListN.{replicate}
use Rattle.follower.specs.Follower.{refuses}
use Rattle.follower.proofs.Laws.Read.{follow-accepted, follow-refused}
use Rattle.follower.proofs.Follower.follow.Goals as goal

pub returns-in-Ok : goal.returns-in-Ok
returns-in-Ok c =
    let read = c.read_packet_into.ensures in
    c.accept.ensures ∙ follow-accepted _ _ _ _ refl read.0 _ _ c.in-Ok.is read.1

pub returns-in-Err : goal.returns-in-Err
unfolding refuses
returns-in-Err c =
    let read = c.read_packet_into.ensures in
    rw c.refuse.ensures (follow-refused _ _ (replicate 248 0) _ refl read.0 _ c.in-Err.is)
