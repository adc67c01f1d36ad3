-- When reading refuses with 7, PARITY: with correction off exactly at the first data word that is not sound, with correction on never.
-- Assumes nothing.
use mathlib.Core.Path.{◌≡◌, refl}
use mathlib.Core.Bool.{Bool, true, false}
use mathlib.Core.List.{List}
use mathlib.Core.Logic.Iff
use mathlib.Core.Logic.{◌↔◌}
use mathlib.Core.Option.{Option, none, some}
use Prim.Native.Nat.{ℕ}
use lib.Dec.{eqb, lit<}
use lib.ListN.{length, drop}
use Rattle.basics.specs.Each.{all}
use Rattle.basics.proofs.Laws.Below.{take_below, drop-below}
use Rattle.anc.specs.Word.{is_sound}
use Rattle.anc.specs.Words.{narrow}
use Rattle.soundness.specs.Check.{unsound_from, FirstUnsound}
use Rattle.anc.proofs.Laws.Words.{narrow_below, below-narrow}
use Rattle.soundness.proofs.Laws.Run.{first-exactly, unsound-found}
use Rattle.refusal.specs.Number.{number_of, refusal_at}
use Rattle.refusal.specs.declared.Wrong.{Wrong}
use Rattle.refusal.specs.declared.Reason.TheVariants.{Parity}
use Rattle.refusal.specs.declared.Refusal.{Refusal}
use Rattle.refusal.proofs.Laws.Chain.{require-passed, next-gives, Without, without, without-next, never-gives}
use Rattle.reading.specs.Reading.{correction_of, protected_of, data_words, head_refusal, protected_refusal, body_refusal, read_refusal, read_into_refusal, OffPacket}
use Rattle.reading.proofs.Laws.Reader.{guarded-on, guarded-off}
use Rattle.reading.proofs.Laws.Numbers.{head-without, tail-without, room-without}

not-seven : {o : Option Refusal} (wrong : Wrong) (place : ℕ) → Without 7 o → o ≡ some (refusal_at (Parity wrong) place) → ⊥
unfolding number_of
not-seven wrong place q = never-gives (refusal_at (Parity wrong) place) q

-- ---- correction on: never

guarded-on-without : (ws : List ℕ) → correction_of ws ≡ true → Without 7 (protected_refusal (correction_of ws) (protected_of ws))
unfolding number_of
guarded-on-without ws on = rw (guarded-on (correction_of ws) (protected_of ws) on) (search without)

read-on : (ws : List ℕ) → correction_of ws ≡ true → Without 7 (read_refusal ws)
unfolding read_refusal body_refusal
read-on ws on = without-next _ (head-without 7 (lit< tt) ws) (without-next _ (guarded-on-without ws on) (tail-without 7 (lit< tt) ws))

-- ---- the words up to the header are refused: never

read_head : (ws : List ℕ) (why : Refusal) → head_refusal ws ≡ some why → Without 7 (read_refusal ws)
unfolding read_refusal
read_head ws why e = rw e (rw e at (head-without 7 (lit< tt) ws))

-- ---- correction off, and the words up to the header as they should be

module _ (ws : List ℕ) (head : head_refusal ws ≡ none) (off : correction_of ws ≡ false) where
  -- what stands behind the data words does not give it
  data-decide : (wrong : Wrong) (place : ℕ)
      → (read_refusal ws ≡ some (refusal_at (Parity wrong) place)) ↔ (unsound_from 1 (data_words (protected_of ws)) ≡ some (refusal_at (Parity wrong) place))
  unfolding read_refusal body_refusal number_of
  data-decide wrong place =
      rw (head, guarded-off (correction_of ws) (protected_of ws) off)
      (Iff.trans (next-gives _ _ _ (not-seven wrong place (tail-without 7 (lit< tt) ws))) (next-gives _ _ _ (not-seven wrong place (search without))))

  -- the data words have ten bits
  data-narrow : narrow (data_words (protected_of ws)) ≡ true
  unfolding head_refusal protected_of
  data-narrow =
      let long = require-passed (eqb (length ws) 262) _ _ head in
      let slim = (require-passed (narrow ws) _ _ long.1).0 in
      below-narrow (data_words (protected_of ws)) (take_below 1024 248 (protected_of ws) (take_below 1024 254 (drop 7 ws) (drop-below 1024 7 ws (narrow_below ws slim))))

-- ---- any words

pub read-parity : (ws : List ℕ) (wrong : Wrong) (place : ℕ)
    → (read_refusal ws ≡ some (refusal_at (Parity wrong) place)) ↔ (OffPacket ws × FirstUnsound 1 (data_words (protected_of ws)) wrong place)
read-parity ws wrong place = (by (head_refusal ws) (correction_of ws) refl refl, λ ((head, off), F). (data-decide ws head off wrong place).1 ((first-exactly 1 _ wrong place).1 F))
  where
    by : (h : Option Refusal) (on : Bool) → head_refusal ws ≡ h → correction_of ws ≡ on → read_refusal ws ≡ some (refusal_at (Parity wrong) place)
        → OffPacket ws × FirstUnsound 1 (data_words (protected_of ws)) wrong place
    by (some why) on h c e = absurd (not-seven wrong place (read_head ws why h) e)
    by none true h c e = absurd (not-seven wrong place (read-on ws c) e)
    by none false h c e = ((h, c), (first-exactly 1 _ wrong place).0 ((data-decide ws h c wrong place).0 e))

-- where a data word is not sound, it is given
pub read-unsound : (ws : List ℕ) → OffPacket ws → all is_sound (data_words (protected_of ws)) ≡ false
    → (wrong : Wrong) × (place : ℕ) × (read_refusal ws ≡ some (refusal_at (Parity wrong) place))
read-unsound ws (head, off) u =
    let (wrong, place, e) = unsound-found 1 (data_words (protected_of ws)) (data-narrow ws head off) u in
    (wrong, place, (data-decide ws head off wrong place).1 e)

-- into any room
pub into-parity : (ws : List ℕ) (room : ℕ) (wrong : Wrong) (place : ℕ)
    → (read_into_refusal ws room ≡ some (refusal_at (Parity wrong) place)) ↔ (read_refusal ws ≡ some (refusal_at (Parity wrong) place))
unfolding read_into_refusal
into-parity ws room wrong place = next-gives (read_refusal ws) _ _ (not-seven wrong place (room-without 7 refl room))
