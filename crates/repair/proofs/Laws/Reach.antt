-- The test of the refusals against what is within reach, and when repair alone refuses with 9, BEYOND REPAIR.
-- Assumes nothing.
use mathlib.Core.Path.{◌≡◌, ap}
use mathlib.Core.Bool.{true, false}
use mathlib.Core.List.{List}
use mathlib.Core.Logic.Iff
use mathlib.Core.Logic.{◌↔◌}
use mathlib.Core.Option.{some}
use Prim.Native.Nat.{ℕ}
use borrow.Author.Tests.{eq-eqb}
use lib.ListN.{length}
use Rattle.basics.proofs.Laws.Test.{fails}
use Rattle.anc.specs.Words.{low_bytes, narrow}
use Rattle.refusal.specs.Number.{number_of, refusal_plain}
use Rattle.refusal.specs.declared.Reason.TheVariants.{BeyondRepair}
use Rattle.refusal.proofs.Laws.Chain.{require-gives, without, never-gives}
use Rattle.rs.specs.Decode.{given}
use Rattle.rs.specs.Marked.{repairable_marked}
use Rattle.rs.proofs.Laws.Marked.{both-given}
use Rattle.search.specs.Marked.{confessed}
use Rattle.repair.specs.Protected.{repairable, repaired, repair_refusal}
use Rattle.repair.specs.Reach.{WithinReach}
use Rattle.repair.proofs.Laws.Repair.{repaired-allowed}

-- the test passes exactly when a codeword is within reach
pub repairable-reach : (words : List ℕ) → (repairable words ≡ true) ↔ WithinReach words
unfolding repairable repairable_marked WithinReach
repairable-reach words = (λ t. (repaired words, repaired-allowed words t), λ (c, W). ap given (both-given (confessed words) (low_bytes words) c W).1)

-- and fails exactly when none is
pub beyond-reach : (words : List ℕ) → (repairable words ≡ false) ↔ (WithinReach words → ⊥)
beyond-reach words = Iff.trans (fails (repairable words)) (Iff.not (repairable-reach words))

-- of 254 words of ten bits, into any room
pub repair-beyond : (words : List ℕ) (room : ℕ) → length words ≡ 254 → narrow words ≡ true
    → (repair_refusal words room ≡ some (refusal_plain BeyondRepair)) ↔ (WithinReach words → ⊥)
unfolding repair_refusal number_of
repair-beyond words room n w =
    simp (eq-eqb (length words) 254 n, w)
    (Iff.trans
    (require-gives (repairable words) (refusal_plain BeyondRepair) _ (never-gives (refusal_plain BeyondRepair) (search without)))
    (beyond-reach words))
