-- `search::mend_marked` meets its contract: the first rule answers where there is a codeword by it, and else the second does.
-- Assumes nothing.
use borrow.Author.Rules.{rules}
use mathlib.Core.Path.{◌≡◌, sym, ap, ◌∙◌, subst}
use mathlib.Core.List.{List}
use Prim.Native.Nat.{ℕ}
use lib.ListN.{length}
use Rattle.rs.specs.Decode.{repairable, repaired}
use Rattle.rs.proofs.Laws.Marked.{none_both}
use Rattle.search.specs.Marked.{confessed}
use Rattle.search.specs.Search.{Damaged}
use Rattle.search.proofs.Laws.Flags.{confessed-length}
use Rattle.search.proofs.Laws.First.{first-answer, second-answer, no-few}
use Rattle.search.proofs.mend_marked.Goals as goal
use Rattle.search.proofs.mend_marked.Goals.{in-Some+else-mend_marks, in_default}

pub returns-then-mend_marks : goal.returns-then-mend_marks
returns-then-mend_marks c =
    let marks = confessed c.args.words.now in
    let long : length c.args.words.now ≡ 254 = search rules in
    let A = first-answer marks c.args.block.now _
    (c.mend_marks.ensures.found c.if-mend_marks.true marks (confessed-length c.args.words.now ∙ long) c.in-Some.ensures) in
    (A.said, A.left)

pub mend-requires : goal.mend-requires
mend-requires c =
    elim c.match-marks_of.branch [
      | in-Some+else-mend_marks w ↦
          subst (λ (b : List ℕ). Damaged b c.args.rest) (sym (w.block-is ∙ w.mend_marks.ensures.kept w.if-mend_marks.false)) c.requires
      | in_default w ↦ subst (λ (b : List ℕ). Damaged b c.args.rest) (sym w.block-is) c.requires
    ]

pub returns : goal.returns
returns c =
    let marks = confessed c.args.words.now in
    let long : length c.args.words.now ≡ 254 = search rules in
    let l = c.args.block.now in
    elim c.match-marks_of.branch [
      | in-Some+else-mend_marks w ↦
          let kept = w.block-is ∙ w.mend_marks.ensures.kept w.if-mend_marks.false in
          let none = w.mend_marks.ensures.lost w.if-mend_marks.false marks (confessed-length c.args.words.now ∙ long) w.in-Some.ensures in
          let A = second-answer marks l (none_both marks l none) _ _ (c.mend.ensures.0 ∙ ap repairable kept) (c.mend.ensures.1 ∙ ap repaired kept) in
          (A.said, A.left)
      | in_default w ↦
          let kept = w.block-is in
          let A = second-answer marks l (no-few marks l w.in_default.ensures) _ _ (c.mend.ensures.0 ∙ ap repairable kept) (c.mend.ensures.1 ∙ ap repaired kept) in
          (A.said, A.left)
    ]
