-- The step from one index to another, what it says of the packet, the onsets of a byte as a mask leaves them, and a worked value of onsets.
-- Assumes nothing.
use mathlib.Core.Path.{◌≡◌, refl}
use mathlib.Core.Bool.{Bool, true}
use Prim.Native.Nat.{ℕ, suc, ◌+◌, ◌-◌, ◌%◌, ◌≤◌, ◌<◌}
use native.Mathlib.Omega.{arith}
use lib.Bits.{bit_and}
use lib.Dec.{T, eqb, eqb-suc-zero}
use Rattle.std.proofs.Math.Facts.{eqb_yes}
use Rattle.basics.proofs.Laws.Test.{below, below_at}
use Rattle.sequence.specs.declared.Kind.{Kind}
use Rattle.sequence.specs.declared.Kind.TheVariants.{First, Next, Repeat, Conflict}
use Rattle.sequence.specs.Sequence.{step_of, kind_of, missed_of}
use Rattle.sequence.specs.Onsets.{onset_bit, onset_byte}

-- ---- the step from one index to another

pub step_same : (c : ℕ) → c < 16 → step_of c c ≡ 0
unfolding step_of
step_same c h = omega arith

-- m packets went by unheard
pub step-on : (c m : ℕ) → c < 16 → m ≤ 14 → step_of c ((c + 1 + m) % 16) ≡ suc m
unfolding step_of
step-on c m h l = omega arith

step-lt : (l n : ℕ) → step_of l n < 16
unfolding step_of
step-lt l n = omega arith

-- ---- what was missed

-- where m packets went by since the last one, m are missed
pub missed-true : (c m : ℕ) → c < 16 → m ≤ 14 → missed_of Next (step_of c ((c + 1 + m) % 16)) ≡ m
missed-true c m h l = omega (arith, step-on c m h l)

-- at most 14 for one arrival
pub missed-le : (k : Kind) (l n : ℕ) → missed_of k (step_of l n) ≤ 14
missed-le First l n = omega arith
missed-le Next l n = omega (arith, step-lt l n)
missed-le Repeat l n = omega arith
missed-le Conflict l n = omega arith

-- ---- the kind

-- a step of one or more is the next packet
pub further : (m : ℕ) (equal : Bool) → kind_of true (suc m) equal ≡ Next
unfolding kind_of
further m equal = rw eqb-suc-zero

-- ---- the onsets of a byte, as a mask leaves them

all-masked : T (below (λ (old : ℕ). below (λ (new : ℕ). eqb (bit_and new (255 - old)) (onset_byte old new)) 256) 256)
unfolding onset_byte onset_bit
all-masked = tt

pub onsets-masked : (old new : ℕ) → old < 256 → new < 256 → bit_and new (255 - old) ≡ onset_byte old new
onsets-masked old new h k =
    eqb_yes
    (below_at (λ (n : ℕ). eqb (bit_and n (255 - old)) (onset_byte old n)) 256
    (below_at (λ (o : ℕ). below (λ (n : ℕ). eqb (bit_and n (255 - o)) (onset_byte o n)) 256) 256 all-masked old h) new k)

-- ---- a worked value

-- of 0x3C, after 0x0F, the bits of 0x30 are onsets
pub onsets-worked : onset_byte 0x0F 0x3C ≡ 0x30
unfolding onset_byte onset_bit
onsets-worked = refl
