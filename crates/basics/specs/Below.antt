-- Lists whose entries are all below a bound.
-- Assumes nothing.
use Rattle.std.specs.Prelude.{List, [], ◌∷◌, ℕ, ◌<◌}

-- each entry is below n
abbrev pub Below : ℕ → List ℕ → Type 0
Below n [] = Unit {0}
Below n (x ∷ l) = (x < n) × Below n l

-- each entry is a byte
abbrev pub Bytes : List ℕ → Type 0
Bytes l = Below 256 l
