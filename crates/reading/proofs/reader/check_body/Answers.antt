-- `reading::reader::check_body` meets its contract: the protected words decide, then the checksum and the record.
-- Assumes nothing.
use mathlib.Core.Path.{refl, ◌∙◌}
use Rattle.std.proofs.Common.{rules}
use Rattle.refusal.proofs.Laws.Chain.{handed-on}
use Rattle.reading.specs.Reading.{correction_of, protected_of}
use Rattle.reading.proofs.Laws.Answer.{body-passed, body_refused}
use Rattle.reading.proofs.reader.check_body.Goals as goal

pub returns-in_err-read_bytes : goal.returns-in_err-read_bytes
unfolding correction_of protected_of
returns-in_err-read_bytes c =
    let guarded = c.read_bytes.ensures in
    (handed-on _ c.from_residual.ensures.1 ∙ body_refused c.args.words.now _ _ (search rules) refl guarded.0 _ c.in_err-read_bytes.was, guarded.1)

pub returns : goal.returns
unfolding correction_of protected_of
returns c =
    let guarded = c.read_bytes.ensures in
    (body-passed c.args.words.now _ _ (search rules) refl guarded.0 _ _ guarded.1 c.in_ok-read_bytes.was c.check_tail.ensures, guarded.1)
