-- Bits and ones of a number.
-- Assumes nothing.
use Rattle.std.proofs.Common.{◌≡◌, ℕ, zero, suc, ◌+◌, ◌/◌, ◌%◌, ◌^◌, ◌<◌, sym, refl, ap, ◌∙◌, ap₂, add_assoc, mod-lt, add-one, arith}
use native.Mathlib.Nat.{pow-succ', div-div-eq-div-mul}
use lib.Pow.{field, mod-mod-pow}
use Rattle.anc.specs.Word.{bit, ones, parity_of}

-- a bit is 0 or 1
pub bit-lt : (i n : ℕ) → bit i n < 2
unfolding bit
bit-lt i n = mod-lt _ (omega arith)

-- halving moves each bit one place down
pub bit-half : (i n : ℕ) → bit i (n / 2) ≡ bit (suc i) n
unfolding bit
bit-half i n = rw (div-div-eq-div-mul, pow-succ')

-- one bit more
pub ones-suc : (n w : ℕ) → ones (suc n) w ≡ ones n w + bit n w
unfolding ones bit
ones-suc zero w = omega arith
ones-suc (suc n) w = rw (ones-suc n (w / 2), ← bit-half n w) (sym (add_assoc _ _ _))

-- only the `n` lowest bits count
pub ones_low : (n w : ℕ) → ones n (w % 2 ^ n) ≡ ones n w
unfolding ones
ones_low zero w = refl
ones_low (suc n) w =
    ap (λ (m : ℕ). ones (suc n) (w % 2 ^ m)) (sym (add-one n))
    ∙ ap₂ (λ (x y : ℕ). x + ones n y) (mod-mod-pow w n 1) (field w n 1)
    ∙ ap (λ (x : ℕ). w % 2 + x) (ones_low n (w / 2))

-- the parity is 0 or 1
pub parity-lt : (b : ℕ) → parity_of b < 2
unfolding parity_of
parity-lt b = mod-lt _ (omega arith)

-- the parity is that of the low byte
pub parity-low : (w : ℕ) → parity_of (w % 256) ≡ parity_of w
unfolding parity_of
parity-low w = ap (λ (n : ℕ). n % 2) (ones_low 8 w)
