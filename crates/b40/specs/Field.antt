-- The field of B40, bit by bit: numbers as bits and bits as numbers, what is packed into a field, and what a field holds.
-- Assumes nothing.
use Rattle.std.specs.Prelude.{Bool, cond, ◌&&◌, List, [], ◌∷◌, ◌++◌, ℕ, zero, suc, ◌+◌, ◌*◌, ◌^◌, eqb, leb, length, take, drop, replicate}
use Rattle.anc.specs.Word.{bit}
use Rattle.anc.specs.Words.{flag}

-- ---- bits, the most significant first

-- the n low bits of a number
unfoldable pub bits : ℕ → ℕ → List ℕ
bits zero m = []
bits (suc n) m = bit n m ∷ bits n m

-- the n low bits of each number, one after the other
unfoldable pub bits_each : ℕ → List ℕ → List ℕ
bits_each n [] = []
bits_each n (m ∷ l) = bits n m ++ bits_each n l

-- the number that bits spell
unfoldable pub number_of : List ℕ → ℕ
number_of [] = 0
number_of (b ∷ l) = b * 2 ^ length l + number_of l

-- the numbers that bits spell, k of them with n bits each
unfoldable pub numbers : ℕ → ℕ → List ℕ → List ℕ
numbers zero n l = []
numbers (suc k) n l = number_of (take n l) ∷ numbers k n (drop n l)

-- ---- the field

-- six zero bits, Y/C, the line in 11 bits, the offset in 12, the words from DID on in ten each, four pad bits
unfoldable pub field_bits : Bool → ℕ → ℕ → List ℕ → List ℕ
field_bits yc line offset words =
    replicate 6 0 ++ cond yc 1 0 ∷ bits 11 line ++ bits 12 offset ++ bits_each 10 (drop 3 words) ++ replicate 4 1

-- 328 bytes of eight bits each
unfoldable pub field_of : Bool → ℕ → ℕ → List ℕ → List ℕ
field_of yc line offset words = numbers 328 8 (field_bits yc line offset words)

-- ---- what a field holds

-- its bits, eight of each byte
unfoldable pub bits_of : List ℕ → List ℕ
bits_of field = bits_each 8 field

-- the number that n of its bits spell, from the given one on
unfoldable pub part : List ℕ → ℕ → ℕ → ℕ
part field from n = number_of (take n (drop from (bits_of field)))

-- Y/C, behind six bits
unfoldable pub yc_of : List ℕ → Bool
yc_of field = eqb (part field 6 1) 1

-- the line, in the next 11
unfoldable pub line_of : List ℕ → ℕ
line_of field = part field 7 11

-- the offset, in the next 12
unfoldable pub offset_of : List ℕ → ℕ
offset_of field = part field 18 12

-- the flag, and the 259 words behind the offset; the pad is not read
unfoldable pub words_of : List ℕ → List ℕ
words_of field = flag ++ numbers 259 10 (drop 30 (bits_of field))

-- ---- the line and the offset of a field

-- a line is 1 to 1,125, an offset 0 to 2,199
unfoldable pub is_place : ℕ → ℕ → Bool
is_place line offset = leb 1 line && leb line 1125 && leb offset 2199
