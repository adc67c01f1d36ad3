-- Onsets: the triggers that were 0 in the record held before and are 1 now.
-- Assumes nothing.
use Rattle.std.specs.Prelude.{Bool, cond, ◌&&◌, List, ℕ, ◌+◌, ◌*◌, ◌/◌, ◌%◌, eqb, get_or}

-- the bit of this weight (1 for b0 to 128 for b7) where it is 1 now and was 0, else 0
unfoldable pub onset_bit : ℕ → ℕ → ℕ → ℕ
onset_bit weight old new = cond (eqb (new / weight % 2) 1 && eqb (old / weight % 2) 0) weight 0

-- b0 to b7
unfoldable pub onset_byte : ℕ → ℕ → ℕ
onset_byte old new =
    (onset_bit 1 old new + onset_bit 2 old new + onset_bit 4 old new + onset_bit 8 old new)
    + (onset_bit 16 old new + onset_bit 32 old new + onset_bit 64 old new + onset_bit 128 old new)

-- of two records, bytes 30 to 33 (29 to 32 counted from 0): Q1 is bit 0 and Q32 is bit 31
unfoldable pub onsets_of : List ℕ → List ℕ → ℕ
onsets_of old new =
    onset_byte (get_or old 29 0) (get_or new 29 0)
    + 256 * onset_byte (get_or old 30 0) (get_or new 30 0)
    + 65536 * onset_byte (get_or old 31 0) (get_or new 31 0)
    + 16777216 * onset_byte (get_or old 32 0) (get_or new 32 0)

-- at FIRST there are none
unfoldable pub onsets_after : Bool → List ℕ → List ℕ → ℕ
onsets_after started old new = cond started (onsets_of old new) 0
