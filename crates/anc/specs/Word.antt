-- Ten-bit words, as they lie in 16 bits: which are sound, the word of a byte, and the checksum of a run of words.
-- Assumes nothing.
use Rattle.std.specs.Prelude.{ℕ, zero, suc, ◌+◌, ◌-◌, ◌*◌, ◌/◌, ◌%◌, ◌^◌, Bool, ◌&&◌, List, [], ◌∷◌, ◌==◌, nat_le}

-- bit `i` of a number, b0 the lowest
unfoldable pub bit : ℕ → ℕ → ℕ
bit i n = n / 2 ^ i % 2

-- how many of the `n` lowest bits of a number are ones
unfoldable pub ones : ℕ → ℕ → ℕ
ones zero w = 0
ones (suc n) w = w % 2 + ones n (w / 2)

-- a word is sound when it is at most 1,023, b0 to b8 together hold an even number of ones, and b9 is the inverse of b8
unfoldable pub is_sound : ℕ → Bool
is_sound w = nat_le w 1023 && (ones 9 w % 2 == 0 && bit 9 w == 1 - bit 8 w)

-- the even parity of b0 to b7: 1 where they hold an odd number of ones, so that with it the number is even
unfoldable pub parity_of : ℕ → ℕ
parity_of b = ones 8 b % 2

-- nine bits as a word: b9 is the inverse of b8
unfoldable pub with_b9 : ℕ → ℕ
with_b9 n = n + 512 * (1 - bit 8 n)

-- a byte as a word: b0 to b7 are the byte, b8 is its even parity, b9 the inverse of b8
unfoldable pub word_of : ℕ → ℕ
word_of b = with_b9 (b + 256 * parity_of b)

-- the sum of the low nine bits of each word
unfoldable pub total : List ℕ → ℕ
total [] = 0
total (w ∷ ws) = w % 512 + total ws

-- the checksum word: that sum modulo 512 in b0 to b8, and b9 the inverse of b8
unfoldable pub checksum_of : List ℕ → ℕ
checksum_of ws = with_b9 (total ws % 512)
