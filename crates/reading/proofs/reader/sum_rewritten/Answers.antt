-- `reading::reader::sum_rewritten` meets its contract: the four words before the protected ones, then the sound words.
-- Assumes nothing.
use mathlib.Core.Path.{ap, ◌∙◌}
use Rattle.std.proofs.Common.{rules}
use Rattle.std.specs.Prelude.{is_ok}
use Rattle.anc.specs.Word.{checksum_of}
use Rattle.anc.proofs.Laws.Words.{sound-filled, sound-done}
use Rattle.reading.proofs.Laws.Reader.{summed-on}
use Rattle.reading.proofs.reader.sum_rewritten.Goals as goal

pub unwrap-requires : goal.unwrap-requires
unwrap-requires c = ap is_ok (sound-done c.args.bytes.now _ c.sound_words.ensures.0 (search rules))

pub returns : goal.returns
returns c = c.checksum.ensures
    ∙ ap checksum_of (summed-on c.args.words.now c.args.bytes.now _ (search rules) (sound-filled _ c.args.bytes.now _ c.sound_words.ensures.1 (search rules)))
