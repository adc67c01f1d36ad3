-- `search::marked::flags` meets its contract: the first `i` places are filled.
-- Assumes nothing.
use mathlib.Core.List.{map}
use Rattle.basics.proofs.Laws.Parts.{Filling}
use Rattle.search.specs.SearchMarked.{flag_of}
use Rattle.search.proofs.marked.flags.Given as goal

abbrev pub invariant-loop-i : goal.invariant-loop-i
invariant-loop-i l = Filling (map flag_of l.words) l.initial.out l.out l.i
