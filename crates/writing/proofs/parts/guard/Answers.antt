-- `writing::parts::guard` meets its contract where correction is on: the parity's words.
-- Assumes nothing.
use mathlib.Core.Path.{ap, ◌∙◌}
use borrow.Author.Rules.{rules}
use Rattle.std.specs.Prelude.{is_ok}
use Rattle.anc.specs.Words.{sound_words}
use Rattle.anc.proofs.Laws.Words.{sound-filled, sound-done}
use Rattle.writing.proofs.parts.guard.Goals as goal

pub unwrap-requires : goal.unwrap-requires
unwrap-requires c = ap is_ok (sound-done c.parity.result _ c.sound_words.ensures.0 (search rules))

pub returns-then-correction : goal.returns-then-correction
returns-then-correction c = rw c.if-correction.true
    (sound-filled _ c.parity.result _ c.sound_words.ensures.1 (search rules) ∙ ap sound_words c.parity.ensures)
