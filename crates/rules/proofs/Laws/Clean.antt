-- A picture mode with every bit that isn't read set to zero: it has four bytes, keeps the rule or breaks it as before, and has nothing
-- left to set to zero.
-- Assumes nothing.
use mathlib.Core.Path.{◌≡◌, refl, ◌∙◌}
use mathlib.Core.Bool.{Bool, true, false, cond}
use mathlib.Core.List.{List, [], ◌∷◌}
use Prim.Native.Nat.{ℕ, ◌+◌, ◌<◌}
use native.Mathlib.Omega.{arith}
use lib.Dec.{eqb}
use lib.ListN.{length, get_or}
use mathlib.Core.Logic.{⊎_elim}
use Rattle.std.proofs.lemmas.Bool.{cases_Bool}
use Rattle.std.proofs.lemmas.Bool.Decides.{nat_tests}
use Rattle.basics.specs.Below.{Bytes}
use Rattle.basics.proofs.Laws.Below.{replicate-below}
use Rattle.rules.specs.Rules.{only_bit, low_half, bit_for, picture_rule, picture_clean}

-- ---- the bytes of a mode that is used

-- W1, W2 and W3 of a mode that is used, where t says whether the bit that only one W0 reads is read
abbrev first_of : Bool → ℕ → ℕ
first_of t w = cond t (only_bit 7 w) 0 + only_bit 6 w + low_half w

abbrev second_of : Bool → ℕ → ℕ
second_of t w = only_bit 7 w + cond t (only_bit 6 w) 0 + only_bit 5 w + low_half w

abbrev third_of : Bool → ℕ → ℕ
third_of t w = cond t (only_bit 6 w) 0 + only_bit 0 w

-- each is a byte
first-lt : (t : Bool) (w : ℕ) → first_of t w < 256
unfolding only_bit low_half
first-lt t w = grind arith

second_lt : (t : Bool) (w : ℕ) → second_of t w < 256
unfolding only_bit low_half
second_lt t w = grind arith

third-lt : (t : Bool) (w : ℕ) → third_of t w < 256
unfolding only_bit
third-lt t w = grind arith

-- what is read of it is all of it
first-again : (t : Bool) (w : ℕ) → first_of t (first_of t w) ≡ first_of t w
unfolding only_bit low_half
first-again t w = grind arith

second-again : (t : Bool) (w : ℕ) → second_of t (second_of t w) ≡ second_of t w
unfolding only_bit low_half
second-again t w = grind arith

third-again : (t : Bool) (w : ℕ) → third_of t (third_of t w) ≡ third_of t w
unfolding only_bit
third-again t w = grind arith

-- the low half stays
first-low : (t : Bool) (w : ℕ) → low_half (first_of t w) ≡ low_half w
unfolding only_bit low_half
first-low t w = grind arith

second-low : (t : Bool) (w : ℕ) → low_half (second_of t w) ≡ low_half w
unfolding only_bit low_half
second-low t w = grind arith

-- ---- a mode that is unused, and one that is used

abbrev used : ℕ → ℕ → ℕ → ℕ → List ℕ
used w0 w1 w2 w3 = w0 ∷ first_of (eqb w0 0x85) w1 ∷ second_of (eqb w0 0x81) w2 ∷ third_of (eqb w0 0x82) w3 ∷ []

clean-unused : (w : List ℕ) → eqb (get_or w 0 0) 0 ≡ true → picture_clean w ≡ 0 ∷ 0 ∷ 0 ∷ 0 ∷ []
unfolding picture_clean
clean-unused w e = rw e

clean-used : (w : List ℕ) → eqb (get_or w 0 0) 0 ≡ false → picture_clean w ≡ used (get_or w 0 0) (get_or w 1 0) (get_or w 2 0) (get_or w 3 0)
unfolding picture_clean bit_for
clean-used w e = rw e

-- ---- the four bytes

pub clean-length : (w : List ℕ) → length (picture_clean w) ≡ 4
unfolding picture_clean
clean-length w = grind (arith, nat_tests)

-- each is a byte
used-bytes : (w0 w1 w2 w3 : ℕ) → w0 < 256 → Bytes (used w0 w1 w2 w3)
used-bytes w0 w1 w2 w3 h = (h, (first-lt (eqb w0 0x85) w1, (second_lt (eqb w0 0x81) w2, (third-lt (eqb w0 0x82) w3, tt))))

pub clean-bytes : (w : List ℕ) → get_or w 0 0 < 256 → Bytes (picture_clean w)
clean-bytes w h =
    ⊎_elim (λ e. rw (clean-unused w e) (replicate-below 256 4 0 (omega arith))) (λ e. rw (clean-used w e) (used-bytes _ _ _ _ h))
    (cases_Bool (eqb (get_or w 0 0) 0))

-- there is nothing left to set to zero
used-again : (w0 w1 w2 w3 : ℕ) → eqb w0 0 ≡ false → picture_clean (used w0 w1 w2 w3) ≡ used w0 w1 w2 w3
used-again w0 w1 w2 w3 e =
    clean-used (used w0 w1 w2 w3) e ∙ rw (first-again (eqb w0 0x85) w1, second-again (eqb w0 0x81) w2, third-again (eqb w0 0x82) w3)

unused-again : picture_clean (0 ∷ 0 ∷ 0 ∷ 0 ∷ []) ≡ 0 ∷ 0 ∷ 0 ∷ 0 ∷ []
unfolding picture_clean
unused-again = refl

pub clean-again : (w : List ℕ) → picture_clean (picture_clean w) ≡ picture_clean w
clean-again w =
    ⊎_elim (λ e. rw (clean-unused w e) unused-again) (λ e. rw (clean-used w e) (used-again _ _ _ _ e)) (cases_Bool (eqb (get_or w 0 0) 0))

-- the rule is kept or broken as before
pub clean-rule : (w : List ℕ) → picture_rule (picture_clean w) ≡ picture_rule w
unfolding picture_rule
clean-rule w =
    ⊎_elim (λ e. rw (clean-unused w e, e))
    (λ e. rw (clean-used w e, first-low (eqb (get_or w 0 0) 0x85) (get_or w 1 0), second-low (eqb (get_or w 0 0) 0x81) (get_or w 2 0)))
    (cases_Bool (eqb (get_or w 0 0) 0))
