-- `anc::low_bytes` meets its contract. The loop's invariant: the first `i` places are filled.
-- Assumes nothing.
use Rattle.basics.proofs.Laws.Parts.{Filling}
use Rattle.anc.specs.Words.{low_bytes}
use Rattle.anc.proofs.low_bytes.Given as goal

abbrev pub invariant-loop-i : goal.invariant-loop-i
invariant-loop-i l = Filling (low_bytes l.words) l.initial.out l.out l.i
