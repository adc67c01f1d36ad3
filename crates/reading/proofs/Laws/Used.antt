-- When reading refuses with 15, RESERVED AREA: exactly where nothing up to the checksum is refused and a byte of the area as it is read is not
-- zero, at the first such byte.
-- Assumes nothing.
use mathlib.Core.Path.{◌≡◌, refl}
use mathlib.Core.Bool.{Bool, true, false}
use mathlib.Core.List.{List}
use mathlib.Core.Logic.Iff
use mathlib.Core.Logic.{◌↔◌}
use mathlib.Core.Option.{Option, none, some}
use Prim.Native.Nat.{ℕ}
use lib.Dec.{eqb, lit<}
use borrow.Author.Tests.{eqb-true, eq-eqb}
use Rattle.anc.specs.Word.{checksum_of}
use Rattle.soundness.proofs.Laws.Run.{unsound-without}
use Rattle.refusal.specs.Number.{number_of, refusal_at, refusal_plain}
use Rattle.refusal.specs.declared.Reason.TheVariants.{ReservedArea, Checksum}
use Rattle.refusal.specs.declared.Refusal.{Refusal}
use Rattle.refusal.proofs.Laws.Chain.{next-gives, next-behind, require-behind, other-number, Without, without, never-gives}
use Rattle.record.specs.Reserved.{FirstUsed}
use Rattle.record.specs.Record.{content_refusal}
use Rattle.record.proofs.Laws.Reserved.{content-first}
use Rattle.reading.specs.Reading.{word, correction_of, protected_of, read_bytes, summed_of, head_refusal, protected_refusal, body_refusal, read_refusal, read_into_refusal, UpToSum}
use Rattle.reading.proofs.Laws.Numbers.{head-without, room-without}

protected-without : (on : Bool) (guarded : List ℕ) → Without 15 (protected_refusal on guarded)
unfolding protected_refusal number_of
protected-without true guarded = search without
protected-without false guarded = search (without, unsound-without 15)

module _ (ws : List ℕ) (place : ℕ) where
  abbrev fifteen : Refusal
  fifteen = refusal_at ReservedArea place

  not-fifteen : {o : Option Refusal} → Without 15 o → o ≡ some fifteen → ⊥
  unfolding number_of
  not-fifteen q = never-gives fifteen q

  -- the checks before it pass, one after the other, and then it is what is in the bytes
  steps : (read_refusal ws ≡ some fifteen)
      ↔ ((head_refusal ws ≡ none) × ((protected_refusal (correction_of ws) (protected_of ws) ≡ none) × ((checksum_of (summed_of ws) ≡ word ws 261) × FirstUsed (read_bytes ws) place)))
  unfolding read_refusal body_refusal number_of
  steps =
      Iff.trans (next-behind (head_refusal ws) (body_refusal ws) fifteen (not-fifteen (head-without 15 (lit< tt) ws)))
      (Iff.and Iff.rfl
      (Iff.trans (next-behind (protected_refusal (correction_of ws) (protected_of ws)) _ fifteen (not-fifteen (protected-without (correction_of ws) (protected_of ws))))
      (Iff.and Iff.rfl
      (Iff.trans (require-behind (eqb (checksum_of (summed_of ws)) (word ws 261)) (refusal_plain Checksum) fifteen (content_refusal (read_bytes ws)) (other-number _ _ refl))
      (Iff.and (eqb-true _ _, eq-eqb _ _) (content-first (read_bytes ws) place))))))

  pub read-used : (read_refusal ws ≡ some (refusal_at ReservedArea place)) ↔ (UpToSum ws × FirstUsed (read_bytes ws) place)
  read-used = Iff.trans steps (λ (h, (g, (s, F))). (record { head = h; guarded = g; sum = s }, F), λ (u, F). (u.head, (u.guarded, (u.sum, F))))

  -- into any room
  pub into-used : (room : ℕ) → (read_into_refusal ws room ≡ some (refusal_at ReservedArea place)) ↔ (UpToSum ws × FirstUsed (read_bytes ws) place)
  unfolding read_into_refusal
  into-used room = Iff.trans (next-gives (read_refusal ws) _ fifteen (not-fifteen (room-without 15 refl room))) read-used
