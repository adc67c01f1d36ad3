-- The laws of counting the places without a mark in which two lists differ.
-- Assumes nothing.
use mathlib.Core.Path.{◌≡◌, refl, ap}
use mathlib.Core.Bool.{Bool, true, false}
use mathlib.Core.List.{List, [], ◌∷◌}
use Prim.Native.Nat.{ℕ, ◌+◌, ◌≤◌}
use native.Mathlib.Nat.{suc_inj}
use native.Mathlib.Omega.{arith}
use lib.ListN.{length}
use Rattle.rs.specs.Decode.{changes}
use Rattle.rs.specs.Marked.{marks_in, errors}
use Rattle.rs.proofs.Laws.Distance.{differ, differ-le, differ_same, differ-via}

pub errors-self : (marks : List Bool) (l : List ℕ) → errors marks l l ≡ 0
unfolding errors
errors-self marks [] = refl
errors-self [] (a ∷ l) = omega (arith, differ_same a a refl, errors-self [] l)
errors-self (true ∷ marks) (a ∷ l) = omega (arith, differ_same a a refl, errors-self marks l)
errors-self (false ∷ marks) (a ∷ l) = omega (arith, differ_same a a refl, errors-self marks l)

-- where there is no mark, they are all the places
pub errors-unmarked : (marks : List Bool) (l m : List ℕ) → marks_in marks ≡ 0 → errors marks l m ≡ changes l m
unfolding errors changes marks_in
errors-unmarked marks [] m z = refl
errors-unmarked marks (a ∷ l) [] z = refl
errors-unmarked [] (a ∷ l) (b ∷ m) z = ap (◌+◌ (differ a b)) (errors-unmarked [] l m z)
errors-unmarked (true ∷ marks) (a ∷ l) (b ∷ m) z = absurd (omega arith)
errors-unmarked (false ∷ marks) (a ∷ l) (b ∷ m) z = ap (◌+◌ (differ a b)) (errors-unmarked marks l m (omega arith))

pub errors-none : (l m : List ℕ) → errors [] l m ≡ changes l m
unfolding marks_in
errors-none l m = errors-unmarked [] l m refl

-- the way by r, on which every marked place may differ
pub errors-via : (marks : List Bool) (c w r : List ℕ) → length c ≡ length r → length w ≡ length r
    → changes c w ≤ marks_in marks + errors marks c r + errors marks w r
unfolding errors changes marks_in
errors-via marks [] w r ec ew = omega arith
errors-via marks (a ∷ c) [] r ec ew = omega arith
errors-via marks (a ∷ c) (b ∷ w) [] ec ew = absurd (omega arith)
errors-via [] (a ∷ c) (b ∷ w) (d ∷ r) ec ew = omega (arith, differ-via a b d, errors-via [] c w r (suc_inj ec) (suc_inj ew))
errors-via (true ∷ marks) (a ∷ c) (b ∷ w) (d ∷ r) ec ew = omega (arith, differ-le a b, errors-via marks c w r (suc_inj ec) (suc_inj ew))
errors-via (false ∷ marks) (a ∷ c) (b ∷ w) (d ∷ r) ec ew = omega (arith, differ-via a b d, errors-via marks c w r (suc_inj ec) (suc_inj ew))
