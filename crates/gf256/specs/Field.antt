-- The field of 256 elements, GF(256): a byte is a polynomial over the field of two elements, its bit of weight 2^i the coefficient of x^i,
-- and polynomials are taken modulo x^8 + x^4 + x^3 + x^2 + 1, which is 0x11D.
-- Assumes nothing.
use Rattle.std.specs.Prelude.{ℕ, zero, suc, ◌*◌, ◌/◌, ◌%◌}
use Rattle.std.specs.Int.Bits.{bit_xor}

infixl 68 ◌⊕◌
infixl 70 ◌⊗◌
-- the sum, which is the difference too: each bit by itself
unfoldable pub ◌⊕◌ : ℕ → ℕ → ℕ
a ⊕ b = bit_xor a b

-- x times a: 2a, and 0x11D taken away where a has its bit 7 set
unfoldable pub double : ℕ → ℕ
double a = 2 * a ⊕ 0x11D * (a / 128 % 2)

-- the product by the n low bits of a: b where a is odd, and x times the product by the bits above
unfoldable pub by_bits : ℕ → ℕ → ℕ → ℕ
by_bits zero a b = 0
by_bits (suc n) a b = a % 2 * b ⊕ double (by_bits n (a / 2) b)

-- the product of two bytes; of larger numbers, that of their low bytes
unfoldable pub ◌⊗◌ : ℕ → ℕ → ℕ
a ⊗ b = by_bits 8 a (b % 256)

-- a to the power k
unfoldable pub pow : ℕ → ℕ → ℕ
pow a zero = 1
pow a (suc k) = a ⊗ pow a k

-- the inverse: a to the power 254, since a to the power 255 is 1 for each byte but 0; that of 0 is 0
unfoldable pub inverse : ℕ → ℕ
inverse a = pow a 254

-- the quotient; by 0 it is 0
unfoldable pub over : ℕ → ℕ → ℕ
over a b = a ⊗ inverse b
