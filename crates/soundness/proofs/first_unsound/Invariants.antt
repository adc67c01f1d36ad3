-- `soundness::first_unsound` meets its contract. The loop's invariant: the words passed are refused for nothing.
-- Assumes nothing.
use Rattle.std.specs.Prelude.{Ok}
use Rattle.refusal.proofs.Laws.Run.{Walked}
use Rattle.soundness.specs.Check.{unsound_at}
use Rattle.soundness.proofs.first_unsound.Given as goal

abbrev pub invariant-loop-i : goal.invariant-loop-i
invariant-loop-i l = Walked unsound_at 1 l.words l.i (Ok tt)
