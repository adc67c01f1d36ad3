-- The laws of the sum: a group in which each element is its own inverse; how the sum goes with the bits of a number.
-- Assumes nothing.
use mathlib.Core.Path.{◌≡◌, refl, sym, ap, ap₂, ◌∙◌}
use Prim.Native.Nat.{ℕ, zero, suc, ◌+◌, ◌*◌, ◌/◌, ◌%◌, ◌<◌}
use native.Mathlib.Nat.{zero-mul, one-mul, add-zero, mul_comm, mod-lt, zero-lt-suc}
use native.Mathlib.Omega.{arith}
use lib.Arith.{bin_ind, digits_mod}
use lib.Dec.{lit<}
use lib.Bits.{bit_xor, differ, xor_step, xor_shr, xor_mod, xor_comm, xor_self, xor_zero_r, xor_block, xor_lt}
use Rattle.gf256.specs.Field.{◌⊕◌}

-- ---- bits

-- a statement of a bit, by its two cases
pub bit : (P : ℕ → Type 0) → P 0 → P 1 → (x : ℕ) → x < 2 → P x
bit P p q zero h = p
bit P p q (suc zero) h = q
bit P p q (suc (suc x)) h = absurd (omega arith)

differ-lt : (x y : ℕ) → x < 2 → y < 2 → differ x y < 2
differ-lt x y hx hy = bit (λ x. differ x y < 2) hy (bit (λ y. differ 1 y < 2) (omega arith) (omega arith) y hy) x hx

differ-assoc : (x y z : ℕ) → x < 2 → y < 2 → z < 2 → differ (differ x y) z ≡ differ x (differ y z)
differ-assoc x y z hx hy hz =
    bit (λ x. differ (differ x y) z ≡ differ x (differ y z)) refl
    (bit (λ y. differ (differ 1 y) z ≡ differ 1 (differ y z)) refl (bit (λ z. differ (differ 1 1) z ≡ differ 1 (differ 1 z)) refl refl z hz) y hy) x hx

pub mod2 : (a : ℕ) → a % 2 < 2
mod2 a = mod-lt a (zero-lt-suc 1)

xor-odd : (a b : ℕ) → bit_xor a b % 2 ≡ differ (a % 2) (b % 2)
xor-odd a b = ap (λ (x : ℕ). x % 2) (xor_step a b) ∙ digits_mod _ (differ-lt _ _ (mod2 a) (mod2 b))

xor_assoc : (a b c : ℕ) → bit_xor (bit_xor a b) c ≡ bit_xor a (bit_xor b c)
xor_assoc a =
    bin_ind (λ (n : ℕ). (b c : ℕ) → bit_xor (bit_xor n b) c ≡ bit_xor n (bit_xor b c)) (λ b c. refl)
    (λ n ih b c.
    xor_step (bit_xor n b) c
    ∙ ap₂ (λ (x y : ℕ). x * 2 + y)
    (ap (λ (x : ℕ). bit_xor x (c / 2)) (xor_shr n b 1) ∙ ih (b / 2) (c / 2) ∙ ap (bit_xor (n / 2)) (sym (xor_shr b c 1)))
    (ap (λ (x : ℕ). differ x (c % 2)) (xor-odd n b) ∙ differ-assoc _ _ _ (mod2 n) (mod2 b) (mod2 c) ∙ ap (differ (n % 2)) (sym (xor-odd b c)))
    ∙ sym (xor_step n (bit_xor b c))) a

-- ---- the group

pub ⊕-assoc : (a b c : ℕ) → a ⊕ b ⊕ c ≡ a ⊕ (b ⊕ c)
unfolding ◌⊕◌
⊕-assoc a b c = xor_assoc a b c

pub ⊕-comm : (a b : ℕ) → a ⊕ b ≡ b ⊕ a
unfolding ◌⊕◌
⊕-comm a b = xor_comm a b

pub ⊕-self : (a : ℕ) → a ⊕ a ≡ 0
unfolding ◌⊕◌
⊕-self a = xor_self a

pub ⊕-zero-r : (a : ℕ) → a ⊕ 0 ≡ a
unfolding ◌⊕◌
⊕-zero-r a = xor_zero_r a

pub ⊕-zero-l : (a : ℕ) → 0 ⊕ a ≡ a
unfolding ◌⊕◌
⊕-zero-l a = refl

pub ⊕-left-comm : (a b c : ℕ) → a ⊕ (b ⊕ c) ≡ b ⊕ (a ⊕ c)
⊕-left-comm a b c = sym (⊕-assoc a b c) ∙ ap (λ (x : ℕ). x ⊕ c) (⊕-comm a b) ∙ ⊕-assoc b a c

-- a sum of 0 says that the two are equal
pub ⊕-zero-eq : (a b : ℕ) → a ⊕ b ≡ 0 → a ≡ b
⊕-zero-eq a b e = sym (⊕-zero-r a) ∙ ap (◌⊕◌ a) (sym (⊕-self b)) ∙ sym (⊕-assoc a b b) ∙ ap (λ (x : ℕ). x ⊕ b) e ∙ ⊕-zero-l b

pub ⊕-pos : (a b : ℕ) → (a ≡ b → ⊥) → 0 < a ⊕ b
⊕-pos a b h = go (a ⊕ b) refl
  where
    go : (m : ℕ) → a ⊕ b ≡ m → 0 < m
    go zero e = absurd (h (⊕-zero-eq a b e))
    go (suc m) e = zero-lt-suc m

pub ⊕-cancel : (a b : ℕ) → a ⊕ (a ⊕ b) ≡ b
⊕-cancel a b = sym (⊕-assoc a a b) ∙ ap (λ (x : ℕ). x ⊕ b) (⊕-self a) ∙ ⊕-zero-l b

pub ⊕-lt : (a b : ℕ) → a < 256 → b < 256 → a ⊕ b < 256
unfolding ◌⊕◌
⊕-lt a b ha hb = xor_lt 8 a b ha hb

-- ---- with the bits of a number

pub ⊕-byte : (a b : ℕ) → (a ⊕ b) % 256 ≡ a % 256 ⊕ b % 256
unfolding ◌⊕◌
⊕-byte a b = xor_mod a b 8

pub ⊕-half : (a b : ℕ) → (a ⊕ b) / 2 ≡ a / 2 ⊕ b / 2
unfolding ◌⊕◌
⊕-half a b = xor_shr a b 1

pub ⊕-odd : (a b : ℕ) → (a ⊕ b) % 2 ≡ a % 2 ⊕ b % 2
unfolding ◌⊕◌
⊕-odd a b = xor_mod a b 1

pub ⊕-bit7 : (a b : ℕ) → (a ⊕ b) / 128 % 2 ≡ a / 128 % 2 ⊕ b / 128 % 2
unfolding ◌⊕◌
⊕-bit7 a b = ap (λ (x : ℕ). x % 2) (xor_shr a b 7) ∙ xor_mod (a / 128) (b / 128) 1

pub ⊕-double : (a b : ℕ) → 2 * (a ⊕ b) ≡ 2 * a ⊕ 2 * b
unfolding ◌⊕◌
⊕-double a b =
    mul_comm 2 (bit_xor a b) ∙ sym (add-zero _) ∙ sym (xor_block 1 a b 0 0 (lit< tt) (lit< tt))
    ∙ ap₂ bit_xor (add-zero _ ∙ mul_comm a 2) (add-zero _ ∙ mul_comm b 2)

pub ⊕-four : (a b c d : ℕ) → (a ⊕ b) ⊕ (c ⊕ d) ≡ (a ⊕ c) ⊕ (b ⊕ d)
⊕-four a b c d = simp (⊕-assoc, ⊕-left-comm)

-- a sum of two bits times a number
pub ⊕-bit-mul : (x y c : ℕ) → x < 2 → y < 2 → (x ⊕ y) * c ≡ x * c ⊕ y * c
unfolding ◌⊕◌
⊕-bit-mul x y c hx hy =
    bit (λ x. (x ⊕ y) * c ≡ x * c ⊕ y * c)
    (ap (λ (z : ℕ). bit_xor z (y * c)) (sym (zero-mul c)))
    (bit (λ y. (1 ⊕ y) * c ≡ 1 * c ⊕ y * c)
    (sym (xor_zero_r (1 * c)) ∙ ap (bit_xor (1 * c)) (sym (zero-mul c)))
    (zero-mul c ∙ sym (xor_self (1 * c))) y hy) x hx

-- a bit times a sum
pub bit-mul-⊕ : (x b c : ℕ) → x < 2 → x * (b ⊕ c) ≡ x * b ⊕ x * c
bit-mul-⊕ x b c hx =
    bit (λ x. x * (b ⊕ c) ≡ x * b ⊕ x * c) (simp (zero-mul, ⊕-zero-l)) (simp (one-mul)) x hx
