-- The reserved area of 248 bytes, bytes 44 to 107: nobody may use it.
-- Assumes nothing.
use Rattle.std.specs.Prelude.{◌≡◌, List, ℕ, ◌-◌, ◌≤◌, ◌<◌, eqb, get_or, take, drop}
use Rattle.std.proofs.Math.Option.{Option}
use Rattle.refusal.specs.Chain.{require, passed}
use Rattle.refusal.specs.Run.{first_from}
use Rattle.refusal.specs.Number.{refusal_at}
use Rattle.refusal.specs.declared.Reason.TheVariants.{ReservedArea}
use Rattle.refusal.specs.declared.Refusal.{Refusal}

unfoldable pub reserved_area : List ℕ → List ℕ
reserved_area bytes = take 64 (drop 43 bytes)

-- 15 at byte number n, where it is not zero
abbrev pub used_at : ℕ → ℕ → Option Refusal
used_at n b = require (eqb b 0) (refusal_at ReservedArea n) passed

-- the first byte of the area that is not zero is the refusal
unfoldable pub reserved_refusal : List ℕ → Option Refusal
reserved_refusal bytes = first_from used_at 44 (reserved_area bytes)

-- ---- the same, byte by byte

-- byte number n, counted from 1
abbrev pub byte : List ℕ → ℕ → ℕ
byte bytes n = get_or bytes (n - 1) 0

-- a byte of the area that is not zero has this number
pub record Used (bytes : List ℕ) (n : ℕ) : Type 0 where
  pub from : 44 ≤ n
  pub to : n ≤ 107
  pub other : byte bytes n ≡ 0 → ⊥

-- and is the first of them
pub record FirstUsed (bytes : List ℕ) (n : ℕ) : Type 0 where
  pub here : Used bytes n
  pub first : (k : ℕ) → k < n → Used bytes k → ⊥
