-- `writing::parts::fill` meets its contract: three parts laid over the buffer, and the checksum of what they are.
-- Assumes nothing.
use mathlib.Core.Path.{refl, ap, ◌∙◌}
use borrow.Author.Rules.{rules}
use Rattle.std.specs.Prelude.{is_ok}
use Rattle.anc.proofs.Laws.Words.{sound-filled, sound-done}
use Rattle.writing.proofs.Laws.Writing.{packet-filled}
use Rattle.writing.proofs.parts.fill.Goals as goal

pub unwrap-requires : goal.unwrap-requires
unwrap-requires c = ap is_ok (sound-done c.args.bytes.now _ c.sound_words.ensures.0 (search rules))

pub returns : goal.returns
returns c = packet-filled c.args.correction c.args.ci c.args.bytes.now c.args.out.now _ _ _ _
    (search rules)
    (search rules)
    (c.copy_from_slice.ensures.after ∙ c.front.ensures ∙ rw c.header.ensures refl)
    (sound-filled _ c.args.bytes.now _ c.sound_words.ensures.1 (search rules))
    (c.copy_from_slice-2.ensures.after ∙ c.guard.ensures)
    c.checksum-sum.ensures
