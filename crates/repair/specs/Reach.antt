-- Which protected words can be repaired.
-- Assumes nothing.
use Rattle.std.specs.Prelude.{List, ◌⊎◌, ℕ}
use Rattle.anc.specs.Words.{low_bytes}
use Rattle.rs.specs.Decode.{Within}
use Rattle.rs.specs.Marked.{cost, WithinMarked}
use Rattle.search.specs.Marked.{confessed}

-- 2e + f of the words against those that were sent: f of them are not sound, and of the others e carry another byte
abbrev pub damage : List ℕ → List ℕ → ℕ
damage words sent = cost (confessed words) (low_bytes sent) (low_bytes words)

-- a codeword is within reach of the words by one of the two rules: it has 2e + f at most 6; or it differs from their low bytes in at most three of them
unfoldable pub WithinReach : List ℕ → Type 0
WithinReach words = (c : List ℕ) × (WithinMarked (confessed words) (low_bytes words) c ⊎ Within (low_bytes words) c)
