-- The record of 248 bytes, what it is refused for, and its private area.
-- Assumes nothing.
use Rattle.std.specs.Prelude.{cond, List, [], ◌∷◌, ◌++◌, ℕ, ◌+◌, ◌-◌, eqb, length, drop, replicate}
use Rattle.std.proofs.Math.Option.{Option}
use Rattle.refusal.specs.Chain.{require, next, passed}
use Rattle.refusal.specs.Number.{refusal_at, refusal_plain}
use Rattle.refusal.specs.declared.Reason.TheVariants.{Size}
use Rattle.refusal.specs.declared.Refusal.{Refusal}
use Rattle.items.specs.Items.{Row, items, part}
use Rattle.record.specs.Reserved.{reserved_refusal}

-- from byte number n on, each item's bytes in its place, cleaned, and zeros where there is no item
unfoldable pub laid_out : ℕ → List Row → List ℕ → List ℕ
laid_out n [] bytes = []
laid_out n (i ∷ is) bytes = replicate (i.first - n) 0 ++ i.clean (part i bytes) ++ laid_out (i.first + i.long) is bytes

-- the record: its items and the reserved area (bytes 44 to 107), which is all that no item has. It is no place that isn't read: of bytes that
-- are not refused the record has zeros there because they were zero
unfoldable pub record_of : List ℕ → List ℕ
record_of bytes = laid_out 1 items bytes

-- the first rule that is broken, with the item's first byte as its place
unfoldable pub broken : List Row → List ℕ → Option Refusal
broken [] bytes = passed
broken (i ∷ is) bytes = require (i.rule (part i bytes)) (refusal_at i.reason i.first) (broken is bytes)

-- 15, then 11 to 14: what is in 248 bytes
unfoldable pub content_refusal : List ℕ → Option Refusal
content_refusal bytes = next (reserved_refusal bytes) (broken items bytes)

-- what 248 bytes are refused for: their number, then what is in them
unfoldable pub record_refusal : List ℕ → Option Refusal
record_refusal bytes = require (eqb (length bytes) 248) (refusal_plain Size) (content_refusal bytes)

-- ---- a part of lent bytes

-- where a part lies that begins n bytes on from where the lent bytes begin: in the same block of memory, n further
abbrev pub bytes_on : ℕ → ℕ × ℕ → ℕ × ℕ
bytes_on n at = (at.0, n + at.1)

-- the private area, which is item 13: bytes 108 to 248 of 248, or nothing
unfoldable pub private_part : List ℕ → List ℕ
private_part bytes = cond (eqb (length bytes) 248) (drop 107 bytes) []

-- and how far on it begins; where there is nothing, at the beginning
unfoldable pub private_start : List ℕ → ℕ
private_start bytes = cond (eqb (length bytes) 248) 107 0
