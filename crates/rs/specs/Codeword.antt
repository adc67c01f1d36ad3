-- RS(254,248): the divisor G, the parity of the data, what the division leaves of a block, and the codewords, which are 248 data bytes and
-- their parity.
-- Assumes nothing.
use Rattle.std.specs.Prelude.{◌≡◌, List, [], ◌∷◌, ◌++◌, ℕ, eqb, length, take, drop, Result}
use Rattle.std.proofs.Math.Option.{Option}
use Rattle.basics.specs.Below.{Bytes}
use Rattle.refusal.specs.Chain.{require, passed, left_by}
use Rattle.refusal.specs.Checked.{answer_of}
use Rattle.refusal.specs.Number.{refusal_plain}
use Rattle.refusal.specs.declared.Reason.TheVariants.{Size}
use Rattle.refusal.specs.declared.Refusal.{Refusal}
use Rattle.gf256.specs.Field.{◌⊕◌}
use Rattle.rs.specs.Polynomial.{◌⊞◌, scale, zeros}

-- the coefficients of G below its x^6
unfoldable pub divisor_bytes : List ℕ
divisor_bytes = 0x3F ∷ 0x01 ∷ 0xDA ∷ 0x20 ∷ 0xE3 ∷ 0x26 ∷ []

-- G = x^6 + 0x3F x^5 + 0x01 x^4 + 0xDA x^3 + 0x20 x^2 + 0xE3 x + 0x26
abbrev pub G : List ℕ
G = 1 ∷ divisor_bytes

-- a step of the long division by x^n + g, of a remainder p with n coefficients: p moves up by one power and d comes in at x^n;
-- what then stands at x^n goes, with its multiple of g
unfoldable pub next : List ℕ → List ℕ → ℕ → List ℕ
next g [] d = []
next g (p ∷ ps) d = (ps ++ (0 ∷ [])) ⊞ scale (p ⊕ d) g

-- the remainder after each of the coefficients ds
unfoldable pub remainder : List ℕ → List ℕ → List ℕ → List ℕ
remainder g p [] = p
remainder g p (d ∷ ds) = remainder g (next g p d) ds

-- P5 to P0: the remainder of x^6 D(x) by G(x), the first data byte being the highest coefficient of D
unfoldable pub parity_of : List ℕ → List ℕ
parity_of d = remainder divisor_bytes (zeros 6) d

-- 21: a block has 254 bytes
unfoldable pub block_refusal : List ℕ → Option Refusal
block_refusal block = require (eqb (length block) 254) (refusal_plain Size) passed

-- what the division leaves of a block: the parity of the first 248 bytes, with the last six added; of a block that is refused, six zeros
unfoldable pub left_of : List ℕ → List ℕ
left_of block = left_by (block_refusal block) (parity_of (take 248 block) ⊞ drop 248 block) (zeros 6)

-- the answer
unfoldable pub divided_of : List ℕ → Result (List ℕ) Refusal
divided_of block = answer_of (block_refusal block) (left_of block)

-- 254 bytes of which the last six are the parity of the 248 before them
pub record Codeword (w : List ℕ) : Type 0 where
  pub long : length w ≡ 254
  pub bytes : Bytes w
  pub parity : drop 248 w ≡ parity_of (take 248 w)
