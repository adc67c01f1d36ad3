-- `soundness::all_sound` meets its contract. The loop's invariant: the answer is that of the words passed.
-- Assumes nothing.
use Rattle.basics.proofs.Laws.Each.{Passing}
use Rattle.anc.specs.Word.{is_sound}
use Rattle.soundness.proofs.all_sound.Given as goal

abbrev pub invariant-loop-word : goal.invariant-loop-word
invariant-loop-word l = Passing is_sound l.words l.word-index l.ok
