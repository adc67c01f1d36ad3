-- Lists whose entries are all below a bound: entry by entry, joined, and in part.
-- Assumes nothing.
use mathlib.Core.Path.{◌≡◌, refl, ap₂}
use mathlib.Core.Bool.{true, ◌&&◌}
use mathlib.Core.List.{List, [], ◌∷◌, ◌++◌}
use Prim.Native.Nat.{ℕ, zero, suc, ◌<◌}
use borrow.Author.Tests.{ltb-true, lt-ltb}
use lib.Dec.{ltb}
use lib.ListN.{get_or, take, drop, replicate}
use Rattle.basics.specs.Each.{all}
use Rattle.basics.specs.Below.{Below}
use Rattle.basics.proofs.Laws.Test.{both_true}

-- below a bound at each place, also past the end, where 0 is read
pub entry-below : (n : ℕ) (l : List ℕ) → 0 < n → Below n l → (i : ℕ) → get_or l i 0 < n
entry-below n [] h b i = h
entry-below n (x ∷ l) h b zero = b.0
entry-below n (x ∷ l) h b (suc i) = entry-below n l h b.1 i

pub at-below : (n : ℕ) (l : List ℕ) → ((i : ℕ) → get_or l i 0 < n) → Below n l
at-below n [] h = tt
at-below n (x ∷ l) h = (h 0, at-below n l (λ i. h (suc i)))

-- as a test
pub all-below : (n : ℕ) (l : List ℕ) → all (λ b. ltb b n) l ≡ true → Below n l
unfolding all
all-below n [] t = tt
all-below n (x ∷ l) t = let both = both_true (ltb x n) (all (λ b. ltb b n) l) t in (ltb-true x n both.0, all-below n l both.1)

pub below_all : (n : ℕ) (l : List ℕ) → Below n l → all (λ b. ltb b n) l ≡ true
unfolding all
below_all n [] p = refl
below_all n (x ∷ l) p = ap₂ ◌&&◌ (lt-ltb x n p.0) (below_all n l p.1)

pub append-below : (n : ℕ) (l m : List ℕ) → Below n l → Below n m → Below n (l ++ m)
append-below n [] m p q = q
append-below n (x ∷ l) m p q = (p.0, append-below n l m p.1 q)

pub take_below : (n k : ℕ) (l : List ℕ) → Below n l → Below n (take k l)
take_below n zero l p = tt
take_below n (suc k) [] p = tt
take_below n (suc k) (x ∷ l) p = (p.0, take_below n k l p.1)

pub drop-below : (n k : ℕ) (l : List ℕ) → Below n l → Below n (drop k l)
drop-below n zero l p = p
drop-below n (suc k) [] p = tt
drop-below n (suc k) (x ∷ l) p = drop-below n k l p.1

pub replicate-below : (n k v : ℕ) → v < n → Below n (replicate k v)
replicate-below n zero v h = tt
replicate-below n (suc k) v h = (h, replicate-below n k v h)
