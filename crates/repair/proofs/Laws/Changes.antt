-- The places in which two lists of words differ, counted one after the other, and the answer of counting 254 words against 254 bytes.
-- Assumes nothing.
use mathlib.Core.Path.{◌≡◌, refl, ap₂, ◌∙◌}
use mathlib.Core.List.{List, [], ◌∷◌}
use Prim.Native.Nat.{ℕ, zero, suc, ◌+◌, ◌≤◌, ◌<◌}
use native.Mathlib.Nat.{le_of_suc-le-suc, not-suc-le-zero}
use native.Mathlib.Numerals.{add-one}
use native.Mathlib.Omega.{arith}
use borrow.Author.Tests.{eq-eqb}
use lib.ListN.{length, take, get_or}
use lib.Seq.{take_all}
use Rattle.rs.specs.Decode.{changes}
use Rattle.rs.proofs.Laws.Distance.{differ, place, differ_same}
use Rattle.anc.specs.Words.{sound_words}
use Rattle.std.specs.Prelude.{Ok}
use Rattle.repair.specs.Protected.{count_refusal}
use Rattle.repair.specs.Repair.{counted_of}

-- ---- the places in which two lists differ

-- one place more
changes-suc : (a b : List ℕ) (i : ℕ) → i < length a → i < length b
    → changes (take (suc i) a) (take (suc i) b) ≡ changes (take i a) (take i b) + differ (get_or a i 0) (get_or b i 0)
unfolding changes
changes-suc [] b i h k = absurd (not-suc-le-zero h)
changes-suc (x ∷ a) [] i h k = absurd (not-suc-le-zero k)
changes-suc (x ∷ a) (y ∷ b) zero h k = omega arith
changes-suc (x ∷ a) (y ∷ b) (suc i) h k = omega (arith, changes-suc a b i (le_of_suc-le-suc h) (le_of_suc-le-suc k))

module _ (a b : List ℕ) (i : ℕ) (h : i < length a) (k : i < length b) where
  -- that is alike
  pub changes-alike : get_or a i 0 ≡ get_or b i 0 → changes (take (i + 1) a) (take (i + 1) b) ≡ changes (take i a) (take i b)
  changes-alike e = rw add-one (omega (arith, changes-suc a b i h k, differ_same (get_or a i 0) (get_or b i 0) e))

  -- that differs
  pub changes-apart : (get_or a i 0 ≡ get_or b i 0 → ⊥) → changes (take (i + 1) a) (take (i + 1) b) ≡ changes (take i a) (take i b) + 1
  changes-apart n =
      rw add-one
      (changes-suc a b i h k
      ∙ place (λ x. changes (take i a) (take i b) + x ≡ changes (take i a) (take i b) + 1) (get_or a i 0) (get_or b i 0) (λ e. absurd (n e)) (λ d. refl))

-- all places
pub changes-all : (a b : List ℕ) (i : ℕ) → length a ≤ i → length b ≤ i → changes (take i a) (take i b) ≡ changes a b
changes-all a b i h k = ap₂ changes (take_all i a h) (take_all i b k)

-- ---- words against bytes, 254 of each

module _ (words bytes : List ℕ) where
  pub counted_words : length words ≡ 254 → length bytes ≡ 254 → Ok (changes words (sound_words bytes)) ≡ counted_of words bytes
  unfolding counted_of count_refusal
  counted_words h k = rw (eq-eqb (length words) 254 h, eq-eqb (length bytes) 254 k)
