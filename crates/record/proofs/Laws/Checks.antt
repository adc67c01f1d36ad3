-- The checks of 248 bytes, one after the other, and which numbers they do not refuse with.
-- Assumes nothing.
use mathlib.Core.Path.{◌≡◌}
use mathlib.Core.Bool.{Bool, true, false}
use mathlib.Core.List.{List, [], ◌∷◌, map}
use Prim.Native.Nat.{ℕ}
use native.Mathlib.Omega.{arith}
use lib.Dec.{eqb}
use lib.ListN.{length, get_or, take, drop}
use Rattle.basics.specs.Each.{all}
use Rattle.basics.proofs.Laws.Test.{both_true}
use Rattle.refusal.proofs.Laws.Chain.{Without, without-passed, without-require}
use Rattle.refusal.specs.Chain.{require, passed}
use Rattle.refusal.specs.Number.{number_of, refusal_at}
use Rattle.refusal.specs.declared.Reason.TheVariants.{Station, Time, Picture, Sound}
use Rattle.rules.specs.Rules.{station_rule, time_rule, picture_rule, sound_byte}
use Rattle.record.specs.Record.{broken}
use Rattle.items.specs.Items.{Row, items, part}
use Rattle.rules.proofs.Laws.Rules.{sound-part}

-- ---- the items that have a rule, in the order of their bytes

pub six_checks : (bytes : List ℕ) → length bytes ≡ 248 → broken items bytes ≡
    require (station_rule (take 8 bytes)) (refusal_at Station 1)
    (require (time_rule (take 9 (drop 8 bytes))) (refusal_at Time 9)
    (require (picture_rule (take 4 (drop 17 bytes))) (refusal_at Picture 18)
    (require (picture_rule (take 4 (drop 21 bytes))) (refusal_at Picture 22)
    (require (sound_byte (get_or bytes 26 0)) (refusal_at Sound 27)
    (require (sound_byte (get_or bytes 27 0)) (refusal_at Sound 28) passed)))))
unfolding broken items part
six_checks bytes h = rw (sound-part bytes 26 (omega arith), sound-part bytes 27 (omega arith))

-- ---- a number that they do not refuse with

-- n, which fails a test that all the rows' numbers pass
pub broken-without : (n : ℕ) (f : ℕ → Bool) → ((m : ℕ) → f m ≡ true → eqb m n ≡ false)
    → (is : List Row) (bytes : List ℕ) → all f (map (λ i. number_of i.reason) is) ≡ true → Without n (broken is bytes)
unfolding broken all
broken-without n f apart [] bytes a = without-passed
broken-without n f apart (i ∷ is) bytes a =
    let b = both_true (f (number_of i.reason)) _ a in
    without-require (i.rule (part i bytes)) _ (apart _ b.0) (broken-without n f apart is bytes b.1)
