-- `soundness::first_unsound` meets its contract.
-- Assumes nothing.
use native.Mathlib.Omega.{arith}
use Rattle.std.proofs.lemmas.Result.{err_from_is_err_and}
use Rattle.refusal.proofs.Laws.Chain.{told}
use Rattle.refusal.proofs.Laws.Run.{walked_on, walked-stops, walked_all}
use Rattle.soundness.specs.Check.{unsound_at, unsound_from}
use Rattle.soundness.proofs.first_unsound.Goals as goal

pub returns-in_err-word_refusal : goal.returns-in_err-word_refusal
unfolding unsound_from
returns-in_err-word_refusal c =
    let l = c.loop-i in
    let p = err_from_is_err_and c.from_residual.result c.from_residual.ensures.1 in
    rw (p.1, p.2) (walked-stops unsound_at 1 c.args.words.now l.i l.invariant (omega arith) _ (told _ _ _ c.word_refusal.ensures c.in_err-word_refusal.was))

pub loop-i-preserved : goal.loop-i-preserved
loop-i-preserved c =
    let l = c.loop-i in
    walked_on unsound_at 1 c.args.words.now l.i l.invariant (omega arith) (told _ _ _ c.word_refusal.ensures c.in_ok-word_refusal.was)

pub returns : goal.returns
unfolding unsound_from
returns c =
    let l = c.loop-i in
    walked_all unsound_at 1 c.args.words.now l.i _ l.invariant (omega arith)
