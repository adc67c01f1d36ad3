-- What the private functions on places with values promise. A reader of the public contracts may pass over this file.
-- Assumes nothing.
use Rattle.std.specs.Prelude.{◌≡◌, List, [], ◌∷◌, ℕ, ◌<◌, ◌≤◌, length, get_or, take}
use Rattle.gf256.specs.Field.{◌⊕◌, pow, over}
use Rattle.gf256.specs.PowerSum.{Apart, ByteTerms}
use Rattle.search.specs.Search.{Explains, terms_at, killed_of}
use Rattle.search.specs.declared.errors.Place.{Place}
use Rattle.search.specs.declared.values.Killed.{Killed}

-- the exponents of places
abbrev pub exponents : List Place → List ℕ
exponents [] = []
exponents (p ∷ ps) = p.exponent ∷ exponents ps

-- the sums that are left once the places are killed, one after the other
unfoldable pub killed_by : List ℕ → List ℕ → List ℕ
killed_by [] s = s
killed_by (k ∷ ks) s = killed_by ks (killed_of (pow 2 k) s)

-- the first sum before each of the first n places was killed, and the sums at the end
pub record KillsAll (n : ℕ) (places s : List ℕ) (r : Killed) : Type 0 where
  pub firsts : (i : ℕ) → i < n → get_or r.firsts i 0 ≡ get_or (killed_by (take i places) s) 0 0
  pub left : r.left ≡ killed_by (take n places) s

-- the sum of all
unfoldable pub sum_of : List ℕ → ℕ
sum_of [] = 0
sum_of (y ∷ v) = y ⊕ sum_of v

-- values at places, as they were before x was killed
unfoldable pub unscaled_of : ℕ → List ℕ → List ℕ → List ℕ
unscaled_of x [] v = []
unscaled_of x (k ∷ ks) [] = []
unscaled_of x (k ∷ ks) (y ∷ v) = over y (pow 2 k ⊕ x) ∷ unscaled_of x ks v

-- the first n of the values at places are as they were before x was killed
pub record Unscaled (n x : ℕ) (ks v u : List ℕ) : Type 0 where
  pub long : length u ≡ length v
  pub done : (i : ℕ) → i < n → get_or u i 0 ≡ over (get_or v i 0) (pow 2 (get_or ks i 0) ⊕ x)
  pub rest : (i : ℕ) → n ≤ i → get_or u i 0 ≡ get_or v i 0

-- the values at the first n places, no two of them one, that n sums allow; behind them zeros
pub record FindsValues (n : ℕ) (s places v : List ℕ) : Type 0 where
  pub behind : (i : ℕ) → n ≤ i → get_or v i 0 ≡ 0
  pub finds : (y : List ℕ) → length y ≡ n → ByteTerms (terms_at (take n places) y) → Apart (terms_at (take n places) y)
      → Explains n (terms_at (take n places) y) s → take n v ≡ y
