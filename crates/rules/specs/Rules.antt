-- The rules of the record's items: what each may hold, and which of its bits are read.
-- Assumes nothing.
use Rattle.std.specs.Prelude.{Bool, true, false, cond, not, ◌&&◌, ◌||◌, List, [], ◌∷◌, ℕ, ◌+◌, ◌*◌, ◌/◌, ◌%◌, ◌^◌, eqb, leb, get_or}
use Rattle.basics.specs.Each.{all}

-- is n one of low to high?
abbrev pub within : ℕ → ℕ → ℕ → Bool
within low high n = leb low n && leb n high

-- is n on the list?
unfoldable pub one_of : List ℕ → ℕ → Bool
one_of [] n = false
one_of (m ∷ ms) n = eqb n m || one_of ms n

-- bit i of a byte in its place, b0 the lowest
unfoldable pub only_bit : ℕ → ℕ → ℕ
only_bit i b = b / 2 ^ i % 2 * 2 ^ i

-- b3 to b0
unfoldable pub low_half : ℕ → ℕ
low_half b = b % 16

-- ---- item 1, station code: each byte 0x20 to 0x7E or 0xA1 to 0xFE

unfoldable pub station_byte : ℕ → Bool
station_byte b = within 0x20 0x7E b || within 0xA1 0xFE b

unfoldable pub station_rule : List ℕ → Bool
station_rule bytes = all station_byte bytes

-- ---- item 2, time: packed decimal, or 0xFF where a byte is not sent

-- the number that a packed decimal byte stands for
unfoldable pub decimal : ℕ → ℕ
decimal b = b / 16 * 10 + b % 16

-- two decimal digits that make a number from low to high, or not sent
unfoldable pub time_byte : ℕ → ℕ → ℕ → Bool
time_byte low high b = eqb b 0xFF || leb (b / 16) 9 && leb (b % 16) 9 && within low high (decimal b)

-- both or neither
abbrev pub same_sent : Bool → Bool → Bool
same_sent true b = b
same_sent false b = not b

-- year, month, day, weekday, hour, minute, second, hundreds of milliseconds, tens and units of them; the last two are both sent or both not
unfoldable pub time_rule : List ℕ → Bool
time_rule w =
    time_byte 0 99 (get_or w 0 0) && time_byte 1 12 (get_or w 1 0) && time_byte 1 31 (get_or w 2 0) && time_byte 0 6 (get_or w 3 0)
    && time_byte 0 23 (get_or w 4 0) && time_byte 0 59 (get_or w 5 0) && time_byte 0 59 (get_or w 6 0) && time_byte 0 9 (get_or w 7 0) && time_byte 0 99 (get_or w 8 0)
    && same_sent (eqb (get_or w 7 0) 0xFF) (eqb (get_or w 8 0) 0xFF)

-- ---- items 3 and 4, picture mode W0 to W3

-- W0 = 0x00: the mode is unused and W1 to W3 aren't read; otherwise W0 is 0x81 to 0x85, with a frame rate and a sampling that are defined
unfoldable pub picture_rule : List ℕ → Bool
picture_rule w =
    eqb (get_or w 0 0) 0x00
    || within 0x81 0x85 (get_or w 0 0)
    && one_of (0 ∷ 2 ∷ 3 ∷ 5 ∷ 6 ∷ 7 ∷ 9 ∷ 10 ∷ 11 ∷ []) (low_half (get_or w 1 0))
    && one_of (0 ∷ 1 ∷ 2 ∷ 3 ∷ 4 ∷ 5 ∷ 6 ∷ 8 ∷ 9 ∷ 10 ∷ []) (low_half (get_or w 2 0))

-- the bit where W0 is v, else 0
unfoldable pub bit_for : ℕ → ℕ → ℕ → ℕ → ℕ
bit_for v w0 i b = cond (eqb w0 v) (only_bit i b) 0

-- W1: b7 transport scan (only for 0x85), b6 picture scan, b3 to b0 frame rate; W2: b7 picture aspect, b6 960 samples (only for 0x81),
-- b5 display aspect, b3 to b0 sampling; W3: b6 second link (only for 0x82), b0 ten bits; nothing of an unused mode
unfoldable pub picture_clean : List ℕ → List ℕ
picture_clean w =
    let w0 : ℕ = get_or w 0 0 in
    cond (eqb w0 0x00) (0 ∷ 0 ∷ 0 ∷ 0 ∷ [])
    (w0
    ∷ (bit_for 0x85 w0 7 (get_or w 1 0) + only_bit 6 (get_or w 1 0) + low_half (get_or w 1 0))
    ∷ (only_bit 7 (get_or w 2 0) + bit_for 0x81 w0 6 (get_or w 2 0) + only_bit 5 (get_or w 2 0) + low_half (get_or w 2 0))
    ∷ (bit_for 0x82 w0 6 (get_or w 3 0) + only_bit 0 (get_or w 3 0))
    ∷ [])

-- ---- items 6 and 7, sound mode: b4 to b0 is 0x00 to 0x1A; b7 to b5 is 0, or 4 to 7 with mode 0x11, 0x12, 0x15 or 0x17 only

unfoldable pub sound_byte : ℕ → Bool
sound_byte b =
    leb (b % 32) 0x1A && (eqb (b / 32) 0 || within 4 7 (b / 32) && one_of (0x11 ∷ 0x12 ∷ 0x15 ∷ 0x17 ∷ []) (b % 32))

unfoldable pub sound_rule : List ℕ → Bool
sound_rule bytes = all sound_byte bytes
