-- The tests of a list as the library computes them, what the tests of a byte come to, and the bits that a mask leaves.
-- Assumes nothing.
use mathlib.Core.Path.{◌≡◌, refl, sym, ap, ap₂, ◌∙◌}
use mathlib.Core.Bool.{Bool, true, false, cond, ◌||◌, and-true}
use mathlib.Core.List.{List, [], ◌∷◌}
use Prim.Native.Nat.{ℕ, ◌+◌, ◌<◌}
use native.Mathlib.Omega.{arith}
use borrow.Author.Tests.{eqb-true, eq-eqb}
use lib.Bits.{bit_and}
use lib.Dec.{eqb, T}
use lib.ListN.{length, get_or, take, drop}
use lib.Seq.{drop-cons, take_all}
use Rattle.std.proofs.Math.Facts.{eqb_yes}
use Rattle.std.specs.List.{list_any}
use Rattle.basics.specs.Each.{all}
use Rattle.basics.proofs.Laws.Test.{same_test, below, below_at}
use Rattle.rules.specs.Rules.{one_of, only_bit, low_half, sound_byte, sound_rule}

-- ---- a test of any entry, as the library computes it

flip : (m n : ℕ) → eqb m n ≡ eqb n m
flip m n = same_test (eqb m n) (eqb n m) (λ e. eq-eqb n m (sym (eqb-true m n e))) (λ e. eq-eqb m n (sym (eqb-true n m e)))

pub list_any-one_of : (l : List ℕ) (n : ℕ) → list_any (λ m. eqb m n) l ≡ one_of l n
unfolding one_of
list_any-one_of [] n = refl
list_any-one_of (m ∷ l) n = ap₂ ◌||◌ (flip m n) (list_any-one_of l n)

-- ---- a rule of one byte

-- a rule of each entry, on the one entry at i
pub sound-part : (l : List ℕ) (i : ℕ) → i < length l → sound_rule (take 1 (drop i l)) ≡ sound_byte (get_or l i 0)
unfolding sound_rule all
sound-part l i h = rw (drop-cons l i 0 h) (and-true _)

pub sound-one : (l : List ℕ) → length l ≡ 1 → sound_rule l ≡ sound_byte (get_or l 0 0)
sound-one l h = ap sound_rule (sym (take_all 1 l (omega arith))) ∙ sound-part l 0 (omega arith)

-- ---- the bits of a byte that are read, as a mask leaves them

-- a mask leaves of each byte what the test compares it to
abbrev leaves : ℕ → (ℕ → ℕ) → Bool
leaves mask part = below (λ b. eqb (bit_and b mask) (part b)) 256

left : (mask : ℕ) (part : ℕ → ℕ) → T (leaves mask part) → (b : ℕ) → b < 256 → bit_and b mask ≡ part b
left mask part t b h = eqb_yes (below_at (λ (b : ℕ). eqb (bit_and b mask) (part b)) 256 t b h)

-- W1, W2 and W3, where t says whether the bit that only one W0 reads is read
pub scans-read : (t : Bool) (b : ℕ) → b < 256 → bit_and b (cond t 0xCF 0x4F) ≡ cond t (only_bit 7 b) 0 + only_bit 6 b + low_half b
unfolding only_bit low_half
scans-read true = left 0xCF (λ b. only_bit 7 b + only_bit 6 b + low_half b) tt
scans-read false = left 0x4F (λ b. 0 + only_bit 6 b + low_half b) tt

pub aspects-read : (t : Bool) (b : ℕ) → b < 256 → bit_and b (cond t 0xEF 0xAF) ≡ only_bit 7 b + cond t (only_bit 6 b) 0 + only_bit 5 b + low_half b
unfolding only_bit low_half
aspects-read true = left 0xEF (λ b. only_bit 7 b + only_bit 6 b + only_bit 5 b + low_half b) tt
aspects-read false = left 0xAF (λ b. only_bit 7 b + 0 + only_bit 5 b + low_half b) tt

pub link_read : (t : Bool) (b : ℕ) → b < 256 → bit_and b (cond t 0x41 0x01) ≡ cond t (only_bit 6 b) 0 + only_bit 0 b
unfolding only_bit
link_read true = left 0x41 (λ b. only_bit 6 b + only_bit 0 b) tt
link_read false = left 0x01 (λ b. 0 + only_bit 0 b) tt
