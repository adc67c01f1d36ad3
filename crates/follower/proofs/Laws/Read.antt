-- What follows on a packet, by what reading it answered and left.
-- Assumes nothing.
use mathlib.Core.Path.{◌≡◌, ◌∙◌}
use mathlib.Core.List.{List}
use Prim.Native.Nat.{ℕ}
use lib.ListN.{length}
use Rattle.std.specs.Prelude.{Result, Ok, Err}
use Rattle.refusal.specs.declared.Refusal.{Refusal}
use Rattle.reading.specs.declared.Packet.{Packet}
use Rattle.reading.specs.Answer.{reading_into_of, read_leaves}
use Rattle.reading.proofs.Laws.Answer.{accepted-is, refused-is}
use Rattle.follower.specs.declared.Follower.{Follower}
use Rattle.follower.specs.Follower.{accepts, refuses, followed}

module _ (f : Follower) (ws old : List ℕ) (r : Result Packet Refusal) (n : length old ≡ 248) (er : r ≡ reading_into_of ws (length old)) where
  pub follow-accepted : (p : Packet) (arrived : List ℕ) → r ≡ Ok p → arrived ≡ read_leaves ws old → accepts f p arrived ≡ followed f ws
  unfolding followed
  follow-accepted p arrived e ea =
      let A = accepted-is ws old r n er p e in
      rw A.0 (λ i. accepts f (A.1 i) ((ea ∙ A.2) i))

  pub follow-refused : (why : Refusal) → r ≡ Err why → refuses f why ≡ followed f ws
  unfolding followed
  follow-refused why e = rw (refused-is ws old r n er why e)
