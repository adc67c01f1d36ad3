-- An answer has number 0 exactly where nothing is refused, and each struct for C carries the answer of the refusal in what it is made from.
-- Assumes nothing.
use mathlib.Core.Path.{◌≡◌, refl}
use mathlib.Core.Bool.{true}
use mathlib.Core.List.{List, Memᴰ}
use mathlib.Core.Option.{Option, none, some}
use Prim.Native.Nat.{ℕ, ◌<◌}
use Rattle.std.specs.Prelude.{Bool, Result, Ok, Err, Some, None}
use lib.Dec.{ltb}
use native.Mathlib.Omega.{arith}
use borrow.Author.Tests.{ltb-true}
use Rattle.basics.specs.Each.{all}
use Rattle.basics.proofs.Laws.Test.{both_true}
use Rattle.refusal.specs.Number.{number_of, fixed_list}
use Rattle.refusal.specs.declared.Reason.{Reason}
use Rattle.refusal.specs.declared.Refusal.{Refusal}
use Rattle.refusal.proofs.Laws.Number.{number-on-list}
use Rattle.refusal.specs.Checked.{refusal_in}
use Rattle.soundness.specs.Check.{Soundness}
use Rattle.reading.specs.declared.Packet.{Packet}
use Rattle.b40.specs.declared.Head.{Head}
use Rattle.desk.specs.declared.Turn.{Turn}
use Rattle.follower.specs.declared.Arrival.{Arrival}
use Rattle.follower.specs.declared.Follower.{Follower}
use Rattle.follower.specs.declared.Followed.{Followed}
use Rattle.answers.specs.Answers.{done, answer_by, word_from, verdict_from, packet_from, repaired_from, field_from, turn_from, heard_from, followed_from}

-- ---- number 0

-- what stands on a list of numbers that are all above 0 is above 0
on-positive : {n : ℕ} {ms : List ℕ} → Memᴰ n ms → all (λ m. ltb 0 m) ms ≡ true → 0 < n
unfolding all
on-positive (Memᴰ.head {x} {xs} e) t = rw e (ltb-true 0 x (both_true (ltb 0 x) (all (λ m. ltb 0 m) xs) t).0)
on-positive (Memᴰ.tail {x} {xs} d) t = on-positive d (both_true (ltb 0 x) (all (λ m. ltb 0 m) xs) t).1

-- the number of every reason is above 0
pub number-positive : (why : Reason) → 0 < number_of why
unfolding all fixed_list
number-positive why = on-positive (number-on-list why) refl

-- where nothing is refused, number and place are 0
pub none_done : answer_by none ≡ done
unfolding answer_by
none_done = refl

-- where the number is 0, nothing is refused
pub zero-none : (o : Option Refusal) → (answer_by o).number ≡ 0 → o ≡ none
unfolding answer_by
zero-none none e = refl
zero-none (some why) e = absurd (omega (arith, number-positive why.reason))

-- ---- the answer in each struct

-- a struct's number and place are those of the answer to a refusal
pub record Says (number place : ℕ) (o : Option Refusal) : Type 0 where
  pub number_is : number ≡ (answer_by o).number
  pub place_is : place ≡ (answer_by o).place

pub word-says : (a : Soundness) → Says (word_from a).number (word_from a).place (refusal_in a)
unfolding word_from answer_by
word-says (Ok None) = record { number_is = refl; place_is = refl }
word-says (Ok (Some wrong)) = record { number_is = refl; place_is = refl }
word-says (Err why) = record { number_is = refl; place_is = refl }

pub verdict-says : (v : Result Bool Refusal) → Says (verdict_from v).number (verdict_from v).place (refusal_in v)
unfolding verdict_from answer_by
verdict-says (Ok codeword) = record { number_is = refl; place_is = refl }
verdict-says (Err why) = record { number_is = refl; place_is = refl }

pub packet-says : (r : Result Packet Refusal) → Says (packet_from r).number (packet_from r).place (refusal_in r)
unfolding packet_from answer_by
packet-says (Ok p) = record { number_is = refl; place_is = refl }
packet-says (Err why) = record { number_is = refl; place_is = refl }

pub repaired-says : (r : Result ℕ Refusal) → Says (repaired_from r).number (repaired_from r).place (refusal_in r)
unfolding repaired_from answer_by
repaired-says (Ok n) = record { number_is = refl; place_is = refl }
repaired-says (Err why) = record { number_is = refl; place_is = refl }

pub field-says : (u : Result Head Refusal) → Says (field_from u).number (field_from u).place (refusal_in u)
unfolding field_from answer_by
field-says (Ok h) = record { number_is = refl; place_is = refl }
field-says (Err why) = record { number_is = refl; place_is = refl }

pub turn-says : (t : Turn) → Says (turn_from t).number (turn_from t).place (refusal_in t.checked)
unfolding turn_from
turn-says t = record { number_is = refl; place_is = refl }

heard-says : (f : Follower) (h : Result Arrival Refusal) → Says (heard_from f h).number (heard_from f h).place (refusal_in h)
unfolding heard_from answer_by
heard-says f (Ok a) = record { number_is = refl; place_is = refl }
heard-says f (Err why) = record { number_is = refl; place_is = refl }

pub followed-says : (x : Followed) → Says (followed_from x).number (followed_from x).place (refusal_in x.heard)
unfolding followed_from
followed-says x = heard-says x.follower x.heard
