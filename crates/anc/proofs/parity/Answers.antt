-- `anc::parity` meets its contract: at each of the 256 bytes the folded bit, computed, is the parity of the definition.
-- Assumes nothing.
use Rattle.std.proofs.Common.{ℕ, ◌/◌, ◌%◌, Bool, T, eqb, eqb→eq, rules}
use lib.Bits.{bit_xor}
use Rattle.anc.specs.Word.{ones, parity_of}
use Rattle.basics.proofs.Laws.Test.{below, below_at}
use Rattle.anc.proofs.parity.Goals as goal

-- what the code computes
fold : ℕ → ℕ → ℕ
fold n x = bit_xor x (x / n)

folds-right : ℕ → Bool
folds-right b = eqb (fold 2 (fold 4 (fold 16 b)) % 2) (parity_of b)

all_right : T (below folds-right 256)
unfolding folds-right fold parity_of ones
all_right = tt

pub returns : goal.returns
unfolding folds-right fold
returns c = eqb→eq _ _ (below_at folds-right 256 all_right c.args.byte (search rules))
