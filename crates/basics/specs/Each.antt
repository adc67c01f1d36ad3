-- Tests of lists, entry by entry.
-- Assumes nothing.
use Rattle.std.specs.Prelude.{Bool, true, false, ◌&&◌, List, [], ◌∷◌, ℕ, eqb}

-- does the test pass at each entry?
unfoldable pub all : (ℕ → Bool) → List ℕ → Bool
all f [] = true
all f (b ∷ l) = f b && all f l

-- are two lists equal, entry by entry?
unfoldable pub same : List ℕ → List ℕ → Bool
same [] [] = true
same [] (b ∷ m) = false
same (a ∷ l) [] = false
same (a ∷ l) (b ∷ m) = eqb a b && same l m
