-- `search::marked::marks_of` meets its contract.
-- Assumes nothing.
use mathlib.Core.Path.{ap, ◌∙◌, subst}
use mathlib.Core.Bool.{Bool}
use mathlib.Core.List.{List}
use Rattle.search.specs.SearchMarked.{marks_by, FewMarks}
use Rattle.search.proofs.Laws.Flags.{flags-confess}
use Rattle.search.proofs.marked.marks_of.Goals as goal

pub returns : goal.returns
returns c = subst (λ (marks : List Bool). FewMarks marks c.collect.result) (ap marks_by c.flags.ensures ∙ flags-confess _) c.collect.ensures
