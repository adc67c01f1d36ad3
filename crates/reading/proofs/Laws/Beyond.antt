-- When reading refuses with 9, BEYOND REPAIR: with correction on exactly where no codeword is within reach, with correction off never.
-- Assumes nothing.
use mathlib.Core.Path.{◌≡◌, refl}
use mathlib.Core.Bool.{true, false}
use mathlib.Core.List.{List}
use mathlib.Core.Logic.Iff
use mathlib.Core.Logic.{◌↔◌}
use mathlib.Core.Option.{Option, none, some}
use Prim.Native.Nat.{ℕ}
use lib.Dec.{lit<}
use Rattle.soundness.proofs.Laws.Run.{unsound-without}
use Rattle.refusal.specs.Chain.{require, passed}
use Rattle.refusal.specs.Number.{number_of, refusal_plain}
use Rattle.refusal.specs.declared.Reason.TheVariants.{BeyondRepair}
use Rattle.refusal.specs.declared.Refusal.{Refusal}
use Rattle.refusal.proofs.Laws.Chain.{passed-other, require-gives, next-gives, Without, without, never-gives}
use Rattle.repair.specs.Protected.{repairable}
use Rattle.repair.specs.Reach.{WithinReach}
use Rattle.repair.proofs.Laws.Reach.{beyond-reach}
use Rattle.reading.specs.Reading.{correction_of, protected_of, head_refusal, protected_refusal, body_refusal, read_refusal, read_into_refusal}
use Rattle.reading.proofs.Laws.Reader.{guarded-on, guarded-off}
use Rattle.reading.proofs.Laws.Numbers.{head-without, tail-without, room-without}

abbrev nine : Refusal
nine = refusal_plain BeyondRepair

pub not-nine : {o : Option Refusal} → Without 9 o → o ≡ some nine → ⊥
unfolding number_of
not-nine q = never-gives nine q

-- ---- correction on, and the words up to the header as they should be

module _ (ws : List ℕ) (head : head_refusal ws ≡ none) (on : correction_of ws ≡ true) where
  pub read-beyond : (read_refusal ws ≡ some (refusal_plain BeyondRepair)) ↔ (WithinReach (protected_of ws) → ⊥)
  unfolding read_refusal body_refusal
  read-beyond =
      rw (head, guarded-on (correction_of ws) (protected_of ws) on)
      (Iff.trans (next-gives (require (repairable (protected_of ws)) nine passed) _ nine (not-nine (tail-without 9 (lit< tt) ws)))
      (Iff.trans (require-gives (repairable (protected_of ws)) nine passed (passed-other nine)) (beyond-reach (protected_of ws))))

  -- into any room
  pub into-beyond : (room : ℕ) → (read_into_refusal ws room ≡ some (refusal_plain BeyondRepair)) ↔ (WithinReach (protected_of ws) → ⊥)
  unfolding read_into_refusal
  into-beyond room = Iff.trans (next-gives (read_refusal ws) _ nine (not-nine (room-without 9 refl room))) read-beyond

-- ---- correction off

module _ (ws : List ℕ) (off : correction_of ws ≡ false) where
  guarded-without : Without 9 (protected_refusal (correction_of ws) (protected_of ws))
  unfolding number_of
  guarded-without = rw (guarded-off (correction_of ws) (protected_of ws) off) (search (without, unsound-without 9))

  pub read_off : Without 9 (read_refusal ws)
  unfolding read_refusal body_refusal
  read_off = search (without, head-without 9 (lit< tt), guarded-without, tail-without 9 (lit< tt))

  pub into-off : (room : ℕ) → Without 9 (read_into_refusal ws room)
  unfolding read_into_refusal
  into-off room = search (without, read_off, room-without 9 refl)
