-- `anc::narrow` meets its contract. The loop's invariant: of the words passed, the largest says whether each fits.
-- Assumes nothing.
use Rattle.std.proofs.Common.{ℕ, Bool, leb}
use Rattle.basics.proofs.Laws.Each.{Passing}
use Rattle.anc.proofs.narrow.Given as goal

abbrev pub fits : ℕ → Bool
fits w = leb w 1023

abbrev pub invariant-loop-word : goal.invariant-loop-word
invariant-loop-word l = Passing fits l.words l.word-index (fits l.top)
