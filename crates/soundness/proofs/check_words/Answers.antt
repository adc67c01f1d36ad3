-- `soundness::check_words` meets its contract: where each word is sound nothing is refused, else the first that is not.
-- Assumes nothing.
use mathlib.Core.Path.{refl, sym, ap, ◌∙◌}
use Rattle.refusal.specs.Checked.{checked_of}
use Rattle.refusal.proofs.Laws.Chain.{chained-none, handed-on, went-on, stopped, decided}
use Rattle.soundness.specs.Check.{words_refusal}
use Rattle.soundness.proofs.Laws.Run.{sound-passed}
use Rattle.soundness.proofs.check_words.Goals as goal

pub returns-in_err-require : goal.returns-in_err-require
unfolding words_refusal
returns-in_err-require c = handed-on _ c.from_residual.ensures.1 ∙ stopped _ chained-none c.require.ensures refl c.plain.ensures c.in_err-require.was

pub returns-then-all_sound : goal.returns-then-all_sound
unfolding words_refusal
returns-then-all_sound c =
    decided _ (went-on chained-none c.require.ensures refl c.plain.ensures c.in_ok-require.was)
    (sym (ap checked_of (sound-passed 1 c.args.words.now (sym c.all_sound.ensures ∙ c.if-all_sound.true))))

pub returns : goal.returns
unfolding words_refusal
returns c = decided _ (went-on chained-none c.require.ensures refl c.plain.ensures c.in_ok-require.was) c.first_unsound.ensures
