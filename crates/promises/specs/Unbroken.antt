-- What is promised of the bytes of a desk that was opened: they are a record in which nothing is refused.
-- Assumes nothing.
use Rattle.std.specs.Prelude.{◌≡◌, List, ℕ, length, replicate}
use Rattle.std.proofs.Math.Option.{none}
use Rattle.items.specs.Items.{items}
use Rattle.record.specs.Reserved.{reserved_area}
use Rattle.record.specs.Record.{broken, record_of}

-- 248 bytes that break no item's rule, with zeros in the reserved area, and in which every place that isn't read is zero: they are their own record
pub record Unbroken (bytes : List ℕ) : Type 0 where
  pub long : length bytes ≡ 248
  pub rules : broken items bytes ≡ none
  pub reserved : reserved_area bytes ≡ replicate 64 0
  pub own : record_of bytes ≡ bytes
