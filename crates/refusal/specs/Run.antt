-- A run of entries that are checked one after the other, each by its number: the first that is refused.
-- Assumes nothing.
use Rattle.std.specs.Prelude.{◌≡◌, List, [], ◌∷◌, ℕ, suc, ◌+◌, ◌<◌, length, get_or}
use Rattle.std.proofs.Math.Option.{Option, some}
use Rattle.refusal.specs.declared.Refusal.{Refusal}
use Rattle.refusal.specs.Chain.{passed, next}

-- entries that are numbered on from n, where `refuses` says what an entry with its number is refused for
unfoldable pub first_from : (ℕ → ℕ → Option Refusal) → ℕ → List ℕ → Option Refusal
first_from refuses n [] = passed
first_from refuses n (x ∷ entries) = next (refuses n x) (first_from refuses (suc n) entries)

-- this is what the first of them that is refused is refused for
pub record FirstRefused (refuses : ℕ → ℕ → Option Refusal) (n : ℕ) (entries : List ℕ) (why : Refusal) : Type 0 where
  -- how many entries stand before it
  pub before : ℕ
  pub within : before < length entries
  pub here : refuses (n + before) (get_or entries before 0) ≡ some why
  pub earlier : (i : ℕ) → i < before → refuses (n + i) (get_or entries i 0) ≡ passed
