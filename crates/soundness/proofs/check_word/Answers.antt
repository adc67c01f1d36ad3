-- `soundness::check_word` meets its contract: each bit is held against that of the word of the low byte.
-- Assumes nothing.
use mathlib.Core.Path.{sym, ap, ◌∙◌}
use borrow.Author.Tests.{leb-true}
use Rattle.std.specs.Prelude.{Ok, Err}
use Rattle.refusal.proofs.Laws.Chain.{handed-on, check-passed, check-failed}
use Rattle.soundness.specs.Check.{soundness_of}
use Rattle.soundness.proofs.Laws.Check.{checked-bits}
use Rattle.soundness.proofs.check_word.Goals as goal

pub returns-in_err-require : goal.returns-in_err-require
unfolding soundness_of
returns-in_err-require c =
    let failed = check-failed _ _ _ (sym c.in_err-require.was ∙ c.require.ensures) in
    handed-on _ c.from_residual.ensures.1 ∙ rw failed.0 (ap Err (failed.1 ∙ c.plain.ensures))

pub returns : goal.returns
returns c =
    let ten = check-passed _ _ (sym c.in_ok-require.was ∙ c.require.ensures) in
    ap Ok c.wrong_by.ensures ∙ checked-bits c.args.word _ (leb-true _ 1023 ten) c.word_of-called.ensures
