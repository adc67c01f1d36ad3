-- `soundness::all_sound` meets its contract.
-- Assumes nothing.
use mathlib.Core.Path.{sym, ap, ◌∙◌}
use mathlib.Core.Bool.{◌&&◌}
use mathlib.Core.List.{List}
use Prim.Native.Nat.{ℕ}
use native.Mathlib.Omega.{arith}
use lib.Dec.{eqb}
use lib.ListN.{get_or}
use Rattle.basics.proofs.Laws.Each.{passing-more, passing-all}
use Rattle.anc.specs.Word.{is_sound}
use Rattle.anc.proofs.Laws.Word.{sound-word}
use Rattle.soundness.proofs.all_sound.Goals as goal

pub loop-word-preserved : goal.loop-word-preserved
loop-word-preserved c =
    let l = c.loop-word in
    let ws : List ℕ = c.args.words.now in
    let word : ℕ = get_or ws l.word-index 0 in
    passing-more is_sound ws l.word-index l.ok _ l.invariant (omega arith) (ap (◌&&◌ l.ok) (ap (eqb word) c.word_of.ensures ∙ sym (sound-word word)))

pub returns : goal.returns
returns c =
    let l = c.loop-word in
    passing-all is_sound c.args.words.now l.word-index l.ok l.invariant (omega arith)
