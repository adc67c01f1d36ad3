-- Counts: below the ceiling a count is the sum, and it never passes the ceiling; counted in parts or at once, it is the same.
-- Assumes nothing.
use mathlib.Core.Path.{◌≡◌, sym, ◌∙◌}
use mathlib.Core.Logic.{⊎_elim}
use Prim.Native.Nat.{ℕ, ◌+◌, ◌≤◌, ◌<◌}
use native.Mathlib.Omega.{arith}
use borrow.Author.Tests.{le-leb, lt-leb}
use Rattle.basics.proofs.Laws.Test.{lt-or-le}
use Rattle.follower.specs.Follower.{ceiling, counted}

-- the sum, up to the ceiling
pub counted-below : (n k : ℕ) → n + k ≤ ceiling → counted n k ≡ n + k
unfolding counted
counted-below n k h = simp (le-leb (n + k) ceiling h)

past : (n k : ℕ) → ceiling < n + k → counted n k ≡ ceiling
unfolding counted
past n k h = simp (lt-leb (n + k) ceiling h)

-- from there on the ceiling
pub counted-stops : (n k : ℕ) → ceiling ≤ n + k → counted n k ≡ ceiling
counted-stops n k h =
    ⊎_elim (λ (l : ceiling < n + k). past n k l) (λ (l : n + k ≤ ceiling). counted-below n k l ∙ omega arith) (lt-or-le ceiling (n + k))

pub counted-le : (n k : ℕ) → counted n k ≤ ceiling
counted-le n k =
    ⊎_elim (λ (l : ceiling < n + k). omega (arith, past n k l)) (λ (l : n + k ≤ ceiling). omega (arith, counted-below n k l)) (lt-or-le ceiling (n + k))

-- counted from nothing: the true count where that is at most the ceiling, else the ceiling
pub counted-true : (k : ℕ) → k ≤ ceiling → counted 0 k ≡ k
counted-true k h = counted-below 0 k (omega arith) ∙ omega arith

pub counted-full : (k : ℕ) → ceiling ≤ k → counted 0 k ≡ ceiling
counted-full k h = counted-stops 0 k (omega arith)

-- nothing more moves nothing
pub counted_none : (n : ℕ) → n ≤ ceiling → counted n 0 ≡ n
counted_none n h = counted-below n 0 (omega arith) ∙ omega arith

-- j more and then k more are j + k more
again-full : (n j k m : ℕ) → ceiling ≤ n + j → m ≡ ceiling → counted m k ≡ counted n (j + k)
again-full n j k m l e = counted-stops m k (omega arith) ∙ sym (counted-stops n (j + k) (omega arith))

again-below : (n j k m : ℕ) → m ≡ n + j → counted m k ≡ counted n (j + k)
unfolding counted
again-below n j k m e = let d : m + k ≡ n + (j + k) = omega arith in rw d

pub counted-again : (n j k : ℕ) → counted (counted n j) k ≡ counted n (j + k)
counted-again n j k =
    ⊎_elim (λ (l : ceiling < n + j). again-full n j k _ (omega arith) (past n j l)) (λ (l : n + j ≤ ceiling). again-below n j k _ (counted-below n j l)) (lt-or-le ceiling (n + j))
