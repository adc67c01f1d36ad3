-- `search::marked::flag` meets its contract: a word is sound exactly when it is the word of its low byte.
-- Assumes nothing.
use mathlib.Core.Path.{◌≡◌, refl, sym, ap, ◌∙◌}
use mathlib.Core.Bool.{Bool, true, false, not, cond}
use Prim.Native.Nat.{ℕ}
use lib.Dec.{eqb}
use mir.Val.{bool_byte}
use Rattle.anc.proofs.Laws.Word.{sound-word}
use Rattle.search.specs.SearchMarked.{flag_of}
use Rattle.search.proofs.marked.flag.Goals as goal

raised : (sound : Bool) → bool_byte (not sound) ≡ cond sound 0 1
raised true = refl
raised false = refl

pub returns : goal.returns
unfolding flag_of
returns c =
    let w : ℕ = c.args.word in
    c.from.ensures ∙ ap (λ (v : ℕ). bool_byte (not (eqb w v))) c.word_of.ensures ∙ ap (λ (t : Bool). bool_byte (not t)) (sym (sound-word w)) ∙ raised _
