-- `record::first_used` meets its contract. The loop's invariant: the bytes passed are zero, so that what is refused is what those behind them are
-- refused for.
-- Assumes nothing.
use Rattle.std.specs.Prelude.{Ok}
use Rattle.refusal.proofs.Laws.Run.{Walked}
use Rattle.record.specs.Reserved.{used_at}
use Rattle.record.proofs.first_used.Given as goal

abbrev pub invariant-loop-i : goal.invariant-loop-i
invariant-loop-i l = Walked used_at l.first l.bytes l.i (Ok tt)
