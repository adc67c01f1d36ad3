-- `anc::sound_words` meets its contract. The loop's invariant: the first `i` places are filled.
-- Assumes nothing.
use Rattle.basics.proofs.Laws.Parts.{Filling}
use Rattle.anc.specs.Words.{sound_words}
use Rattle.anc.proofs.sound_words.Given as goal

abbrev pub invariant-loop-i : goal.invariant-loop-i
invariant-loop-i l = Filling (sound_words l.bytes) l.initial.out l.out l.i
