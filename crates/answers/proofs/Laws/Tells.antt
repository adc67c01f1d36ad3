-- Nothing is lost on the way to C: two answers that give the same struct are the same answer. Where the struct has no bits, that is said of
-- answers that are not refused with 7.
-- Assumes nothing.
use mathlib.Core.Path.{◌≡◌, refl, ap, sym, ◌∙◌}
use mathlib.Core.Bool.{cond}
use mathlib.Core.Option.{Option, none, some}
use Prim.Native.Nat.{ℕ, ◌<◌}
use Rattle.std.specs.Prelude.{Bool, Result, Ok, Err, Some, None}
use lib.Dec.{eqb}
use native.Mathlib.Omega.{arith}
use borrow.Author.Tests.{leb-true, leb-false}
use Rattle.refusal.specs.Number.{number_of, bits_of, bits_in}
use Rattle.refusal.specs.declared.Wrong.{Wrong}
use Rattle.refusal.specs.declared.Reason.{Reason}
use Rattle.refusal.specs.declared.Reason.TheVariants.{Parity}
use Rattle.refusal.specs.declared.Refusal.{Refusal}
use Rattle.refusal.proofs.Laws.Number.{number-inj, bits-seven}
use Rattle.refusal.proofs.Laws.Chain.{checked-in, Without}
use Rattle.refusal.specs.Checked.{Checked, checked_of, refusal_in}
use Rattle.soundness.specs.Check.{Soundness}
use Rattle.reading.specs.declared.Packet.{Packet}
use Rattle.b40.specs.declared.Head.{Head}
use Rattle.desk.specs.declared.Desk.{Desk}
use Rattle.desk.specs.declared.Turn.{Turn}
use Rattle.sequence.specs.declared.Kind.{Kind}
use Rattle.sequence.specs.declared.Kind.TheVariants.{First, Next, Repeat, Conflict}
use Rattle.follower.specs.declared.Arrival.{Arrival}
use Rattle.follower.specs.declared.Follower.{Follower}
use Rattle.follower.specs.declared.Followed.{Followed}
use Rattle.answers.specs.declared.AyAnswer.{AyAnswer}
use Rattle.answers.specs.declared.AyWord.{AyWord}
use Rattle.answers.specs.declared.AyVerdict.{AyVerdict}
use Rattle.answers.specs.declared.AyPacket.{AyPacket}
use Rattle.answers.specs.declared.AyRepaired.{AyRepaired}
use Rattle.answers.specs.declared.AyField.{AyField}
use Rattle.answers.specs.declared.AyTurn.{AyTurn}
use Rattle.answers.specs.declared.AyFollowed.{AyFollowed}
use Rattle.answers.specs.Answers.{answer_by, word_from, verdict_from, packet_from, repaired_from, field_from, turn_from, kind_number, heard_from, followed_from}
use Rattle.answers.proofs.Laws.Done.{number-positive}

-- no reason has number 0
never-zero : {A : Type 0} (why : Reason) → number_of why ≡ 0 → A
never-zero why e = absurd (omega (arith, number-positive why))

-- a refusal is known by its number, place and bits
refusal-known : (a b : Refusal) → number_of a.reason ≡ number_of b.reason → a.place ≡ b.place → bits_in a.reason ≡ bits_in b.reason → a ≡ b
refusal-known a b n p q = together a.reason b.reason a.place b.place (number-inj _ _ n q) p
  where
    together : (r s : Reason) (x y : ℕ) → r ≡ s → x ≡ y → ◌≡◌ {A = Refusal} (record { reason = r; place = x }) (record { reason = s; place = y })
    together r s x y e f = rw (e, f)

-- one that is not 7 has none
bare : (a : Refusal) → Without 7 (some a) → bits_in a.reason ≡ 0
bare a w = let none' : bits_in a.reason < 1 = leb-false 1 (bits_in a.reason) (bits-seven a.reason ∙ w.other a refl) in omega arith

-- and is known by its number and place
bare-known : (a b : Refusal) → Without 7 (some a) → Without 7 (some b) → number_of a.reason ≡ number_of b.reason → a.place ≡ b.place → a ≡ b
bare-known a b v w n p = refusal-known a b n p (bare a v ∙ sym (bare b w))

-- so is what an answer was made from
known : (a b : Option Refusal) → Without 7 a → Without 7 b → (answer_by a).number ≡ (answer_by b).number → (answer_by a).place ≡ (answer_by b).place → a ≡ b
unfolding answer_by
known none none v w n p = refl
known none (some b) v w n p = never-zero b.reason (sym n)
known (some a) none v w n p = never-zero a.reason n
known (some a) (some b) v w n p = ap some (bare-known a b v w n p)

pub answer-tells : (a b : Option Refusal) → Without 7 a → Without 7 b → answer_by a ≡ answer_by b → a ≡ b
answer-tells a b v w e = known a b v w (ap (λ (x : AyAnswer). x.number) e) (ap (λ (x : AyAnswer). x.place) e)

-- what is wrong with a word is known by its bits
bits-known : (a b : Wrong) → bits_of a ≡ bits_of b → a ≡ b
unfolding bits_in
bits-known a b e = let same : Parity a ≡ Parity b = number-inj (Parity a) (Parity b) (unfold number_of in refl) e in cc

bits_positive : {A : Type 0} (a : Wrong) → bits_of a ≡ 0 → A
unfolding bits_in number_of
bits_positive a e = absurd (omega (arith, leb-true 1 (bits_of a) (bits-seven (Parity a))))

pub word-tells : (a b : Soundness) → word_from a ≡ word_from b → a ≡ b
unfolding word_from
word-tells (Ok None) (Ok None) e = refl
word-tells (Ok None) (Ok (Some b)) e = bits_positive b (sym (ap (λ (x : AyWord). x.bits) e))
word-tells (Ok None) (Err b) e = never-zero b.reason (sym (ap (λ (x : AyWord). x.number) e))
word-tells (Ok (Some a)) (Ok None) e = bits_positive a (ap (λ (x : AyWord). x.bits) e)
word-tells (Ok (Some a)) (Ok (Some b)) e = ap (λ (w : Wrong). Ok (Some w)) (bits-known a b (ap (λ (x : AyWord). x.bits) e))
word-tells (Ok (Some a)) (Err b) e = never-zero b.reason (sym (ap (λ (x : AyWord). x.number) e))
word-tells (Err a) (Ok None) e = never-zero a.reason (ap (λ (x : AyWord). x.number) e)
word-tells (Err a) (Ok (Some b)) e = never-zero a.reason (ap (λ (x : AyWord). x.number) e)
word-tells (Err a) (Err b) e =
    ap Err (refusal-known a b (ap (λ (x : AyWord). x.number) e) (ap (λ (x : AyWord). x.place) e) (ap (λ (x : AyWord). x.bits) e))

pub verdict-tells : (a b : Result Bool Refusal) → Without 7 (refusal_in a) → Without 7 (refusal_in b) → verdict_from a ≡ verdict_from b → a ≡ b
unfolding verdict_from
verdict-tells (Ok a) (Ok b) v w e = ap (λ (x : AyVerdict). Ok x.codeword) e
verdict-tells (Ok a) (Err b) v w e = never-zero b.reason (sym (ap (λ (x : AyVerdict). x.number) e))
verdict-tells (Err a) (Ok b) v w e = never-zero a.reason (ap (λ (x : AyVerdict). x.number) e)
verdict-tells (Err a) (Err b) v w e =
    ap Err (bare-known a b v w (ap (λ (x : AyVerdict). x.number) e) (ap (λ (x : AyVerdict). x.place) e))

pub packet-tells : (a b : Result Packet Refusal) → packet_from a ≡ packet_from b → a ≡ b
unfolding packet_from
packet-tells (Ok p) (Ok q) e = ap (λ (x : AyPacket). Ok (record { correction = x.correction; ci = x.ci; fixed = x.fixed })) e
packet-tells (Ok p) (Err b) e = never-zero b.reason (sym (ap (λ (x : AyPacket). x.number) e))
packet-tells (Err a) (Ok q) e = never-zero a.reason (ap (λ (x : AyPacket). x.number) e)
packet-tells (Err a) (Err b) e =
    ap Err (refusal-known a b (ap (λ (x : AyPacket). x.number) e) (ap (λ (x : AyPacket). x.place) e) (ap (λ (x : AyPacket). x.bits) e))

pub repaired-tells : (a b : Result ℕ Refusal) → Without 7 (refusal_in a) → Without 7 (refusal_in b) → repaired_from a ≡ repaired_from b → a ≡ b
unfolding repaired_from
repaired-tells (Ok m) (Ok n) v w e = ap (λ (x : AyRepaired). Ok x.fixed) e
repaired-tells (Ok m) (Err b) v w e = never-zero b.reason (sym (ap (λ (x : AyRepaired). x.number) e))
repaired-tells (Err a) (Ok n) v w e = never-zero a.reason (ap (λ (x : AyRepaired). x.number) e)
repaired-tells (Err a) (Err b) v w e =
    ap Err (bare-known a b v w (ap (λ (x : AyRepaired). x.number) e) (ap (λ (x : AyRepaired). x.place) e))

pub field-tells : (a b : Result Head Refusal) → Without 7 (refusal_in a) → Without 7 (refusal_in b) → field_from a ≡ field_from b → a ≡ b
unfolding field_from
field-tells (Ok h) (Ok k) v w e = ap (λ (x : AyField). Ok (record { yc = x.yc; line = x.line; offset = x.offset })) e
field-tells (Ok h) (Err b) v w e = never-zero b.reason (sym (ap (λ (x : AyField). x.number) e))
field-tells (Err a) (Ok h) v w e = never-zero a.reason (ap (λ (x : AyField). x.number) e)
field-tells (Err a) (Err b) v w e =
    ap Err (bare-known a b v w (ap (λ (x : AyField). x.number) e) (ap (λ (x : AyField). x.place) e))

pub turn-tells : (a b : Turn) → Without 7 (refusal_in a.checked) → Without 7 (refusal_in b.checked) → turn_from a ≡ turn_from b → a ≡ b
unfolding turn_from
turn-tells a b v w e =
    together a.desk b.desk a.checked b.checked (ap (λ (x : AyTurn). x.desk) e)
    (sym (checked-in _) ∙ ap checked_of (known _ _ v w (ap (λ (x : AyTurn). x.number) e) (ap (λ (x : AyTurn). x.place) e)) ∙ checked-in _)
  where
    together : (d f : Desk) (c k : Checked) → d ≡ f → c ≡ k → ◌≡◌ {A = Turn} (record { desk = d; checked = c }) (record { desk = f; checked = k })
    together d f c k p q = rw (p, q)

-- the kind that a number is for; where it is for none, any will do
kind_named : ℕ → Kind
kind_named n = cond (eqb n 1) First (cond (eqb n 2) Next (cond (eqb n 3) Repeat Conflict))

kind-back : (k : Kind) → kind_named (kind_number k) ≡ k
unfolding kind_number kind_named
kind-back First = refl
kind-back Next = refl
kind-back Repeat = refl
kind-back Conflict = refl

-- the arrival that a struct tells of
arrival_in : AyFollowed → Arrival
arrival_in x = record { kind = kind_named x.kind; ci = x.ci; fixed = x.fixed; missed = x.missed; onsets = x.onsets }

arrival-back : (f : Follower) (a : Arrival) → arrival_in (heard_from f (Ok a)) ≡ a
unfolding arrival_in heard_from
arrival-back f a = rw (kind-back a.kind)

heard-tells : (f g : Follower) (a b : Result Arrival Refusal) → heard_from f a ≡ heard_from g b → a ≡ b
unfolding heard_from
heard-tells f g (Ok a) (Ok b) e = ap Ok (sym (arrival-back f a) ∙ ap arrival_in e ∙ arrival-back g b)
heard-tells f g (Ok a) (Err b) e = never-zero b.reason (sym (ap (λ (x : AyFollowed). x.number) e))
heard-tells f g (Err a) (Ok b) e = never-zero a.reason (ap (λ (x : AyFollowed). x.number) e)
heard-tells f g (Err a) (Err b) e =
    ap Err (refusal-known a b (ap (λ (x : AyFollowed). x.number) e) (ap (λ (x : AyFollowed). x.place) e) (ap (λ (x : AyFollowed). x.bits) e))

-- the follower in the struct is the one handed back
follower-back : (f : Follower) (h : Result Arrival Refusal) → (heard_from f h).follower ≡ f
unfolding heard_from
follower-back f (Ok a) = refl
follower-back f (Err why) = refl

pub followed-tells : (a b : Followed) → followed_from a ≡ followed_from b → a ≡ b
unfolding followed_from
followed-tells a b e =
    together a.follower b.follower a.heard b.heard
    (sym (follower-back _ a.heard) ∙ ap (λ (x : AyFollowed). x.follower) e ∙ follower-back _ b.heard)
    (heard-tells a.follower b.follower a.heard b.heard e)
  where
    together : (f g : Follower) (h k : Result Arrival Refusal) → f ≡ g → h ≡ k → ◌≡◌ {A = Followed} (record { follower = f; heard = h }) (record { follower = g; heard = k })
    together f g h k p q = rw (p, q)
