-- What is promised of the reserved area: when refusal 15 is given, and where.
-- Assumes nothing.
use Rattle.std.specs.Prelude.{◌≡◌, List, ◌↔◌, ℕ}
use Rattle.std.proofs.Math.Option.{Option, some}
use Rattle.refusal.specs.Number.{refusal_at}
use Rattle.refusal.specs.declared.Reason.TheVariants.{ReservedArea}
use Rattle.refusal.specs.declared.Refusal.{Refusal}
use Rattle.record.specs.Reserved.{Used, FirstUsed}

-- 15, RESERVED AREA: with a place exactly where what is tested before it passed and the first of bytes 44 to 107 that is not zero has that number,
-- and given wherever that passed and one of them is not zero
pub record ReservedExactly (refusal : Option Refusal) (Before : Type 0) (bytes : List ℕ) : Type 0 where
  pub at : (place : ℕ) → (refusal ≡ some (refusal_at ReservedArea place)) ↔ (Before × FirstUsed bytes place)
  pub given : Before → (n : ℕ) → Used bytes n → (place : ℕ) × (refusal ≡ some (refusal_at ReservedArea place))
