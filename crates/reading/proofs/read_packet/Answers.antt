-- `reading::read_packet` meets its contract: the chain of checks says whether there is a packet.
-- Assumes nothing.
use mathlib.Core.Path.{◌∙◌}
use Rattle.std.proofs.lemmas.Result.{MatchResult-at_ok}
use Rattle.refusal.proofs.Laws.Chain.{handed-on}
use Rattle.reading.proofs.Laws.Answer.{answer-long, answer-bytes, answer-accepted, answer-refused}
use Rattle.reading.proofs.read_packet.Goals as goal

pub returns-in_err-check : goal.returns-in_err-check
returns-in_err-check c = handed-on _ c.from_residual.ensures.1 ∙ answer-refused _ _ c.check.ensures.0 _ c.in_err-check.was

pub unwrap-requires : goal.unwrap-requires
unwrap-requires c = c.try_into.ensures.0 (answer-long _ _ c.check.ensures.0 c.in_ok-check.was)

pub returns : goal.returns
returns c =
    let check = c.check.ensures in
    let told = c.in_ok-check.was in
    let whole = MatchResult-at_ok _ _ _ c.unwrap.ensures c.try_into.ensures.1 in
    answer-accepted _ _ check.0 _ _ told (answer-bytes _ _ check.0 _ _ told check.1) (rw whole.same at c.packet.ensures)
