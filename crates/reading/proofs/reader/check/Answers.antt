-- `reading::reader::check` meets its contract: the head decides, then what stands behind it.
-- Assumes nothing.
use mathlib.Core.Path.{◌∙◌}
use Rattle.std.proofs.lemmas.Result.{MatchResult-at_ok}
use Rattle.refusal.proofs.Laws.Chain.{handed-on}
use Rattle.reading.proofs.Laws.Answer.{head-long, whole-passed, whole-refused, left_passed, left-refused}
use Rattle.reading.proofs.reader.check.Goals as goal

pub returns-in_err-check_head : goal.returns-in_err-check_head
returns-in_err-check_head c =
    let head = c.check_head.ensures in
    let told = c.in_err-check_head.was in
    (handed-on _ c.from_residual.ensures.1 ∙ whole-refused _ _ head _ told, left-refused _ _ head _ _ _ told)

pub unwrap-requires : goal.unwrap-requires
unwrap-requires c = c.try_into.ensures.0 (head-long _ _ c.check_head.ensures c.in_ok-check_head.was)

pub returns : goal.returns
returns c =
    let head = c.check_head.ensures in
    let told = c.in_ok-check_head.was in
    let whole = MatchResult-at_ok _ _ _ c.unwrap.ensures c.try_into.ensures.1 in
    let body = rw whole.same at c.check_body.ensures in
    (whole-passed _ _ head _ told body.0, body.1 ∙ left_passed _ _ head _ _ told)
