-- When a packet is the one before again, when it is not, and which kind it then is; and that the same record sets no trigger.
-- Assumes nothing.
use mathlib.Core.Path.{◌≡◌, refl, ap, ap₂}
use mathlib.Core.Bool.{Bool, true, false, cond, ◌&&◌}
use mathlib.Core.List.{List}
use Prim.Native.Nat.{ℕ, suc, ◌/◌, ◌%◌}
use borrow.Author.Tests.{eq-eqb, eqb-true}
use lib.Dec.{eqb}
use Rattle.basics.specs.Each.{same}
use Rattle.basics.proofs.Laws.Test.{both_true, fails}
use Rattle.basics.proofs.Laws.Each.{same-equal, same_self}
use Rattle.sequence.specs.declared.Kind.TheVariants.{Next, Repeat}
use Rattle.sequence.proofs.Laws.Sequence.{further}
use Rattle.sequence.specs.Onsets.{onset_bit, onset_byte, onsets_of}
use Rattle.reading.specs.declared.Packet.{Packet}
use Rattle.follower.specs.declared.Follower.{Follower}
use Rattle.follower.specs.Follower.{step_to, before_again, arrived_as}

module _ (f : Follower) (p : Packet) (arrived : List ℕ) where
  -- what is so where it is
  pub record Again : Type 0 where
    pub started : f.started ≡ true
    pub successive : f.held.successive ≡ true
    pub step : step_to f p ≡ 15
    pub equal : f.held.before ≡ arrived

  pub again-so : before_again f p arrived ≡ true → Again
  unfolding before_again
  again-so e =
      let A = both_true _ (same f.held.before arrived) e in
      let B = both_true _ (eqb (step_to f p) 15) A.0 in
      let C = both_true f.started f.held.successive B.0 in
      record { started = C.0; successive = C.1; step = eqb-true _ _ B.1; equal = same-equal _ _ A.1 }

  pub so-again : Again → before_again f p arrived ≡ true
  unfolding before_again
  so-again A =
      ap₂ ◌&&◌ (ap₂ ◌&&◌ (ap₂ ◌&&◌ A.started A.successive) (eq-eqb _ _ A.step)) (rw A.equal (same_self arrived))

  -- it is not, where that cannot be
  pub not-again : (Again → ⊥) → before_again f p arrived ≡ false
  not-again n = (fails (before_again f p arrived)).1 (λ e. n (again-so e))

  -- the one before again is a REPEAT
  pub again-kind : Again → arrived_as f p arrived ≡ Repeat
  unfolding arrived_as
  again-kind A = rw (so-again A)

  -- another, where so many went by unheard, is NEXT
  pub other-kind : (m : ℕ) → (Again → ⊥) → step_to f p ≡ suc m → f.started ≡ true → arrived_as f p arrived ≡ Next
  unfolding arrived_as
  other-kind m n d s = rw (not-again n, d, s) (further m _)

-- ---- a bit that was 1 is no onset

bit-self : (weight x : ℕ) → onset_bit weight x x ≡ 0
unfolding onset_bit
bit-self weight x = by (eqb (x / weight % 2) 1) refl
  where
    by : (b : Bool) → eqb (x / weight % 2) 1 ≡ b → cond (b && eqb (x / weight % 2) 0) weight 0 ≡ 0
    by true e = ap (λ (b : ℕ). cond (eqb b 0) weight 0) (eqb-true (x / weight % 2) 1 e)
    by false e = refl

pub onsets-self : (rec : List ℕ) → onsets_of rec rec ≡ 0
unfolding onsets_of onset_byte
onsets-self rec = simp bit-self
