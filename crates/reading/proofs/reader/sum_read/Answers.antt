-- `reading::reader::sum_read` meets its contract: with correction off the words are summed where they stand.
-- Assumes nothing.
use mathlib.Core.Path.{ap, ◌∙◌}
use Rattle.anc.specs.Word.{checksum_of}
use Rattle.reading.proofs.Laws.Reader.{summed-off}
use Rattle.reading.proofs.reader.sum_read.Goals as goal

pub returns : goal.returns
returns c = rw c.if-correction.false (c.checksum.ensures ∙ ap checksum_of (summed-off c.args.words.now c.args.bytes.now))
