-- `plain::solver::two_places` meets its contract.
-- Assumes nothing.
use borrow.Author.Rules.{rules}
use mathlib.Core.Path.{sym, ◌∙◌, subst, subst₂}
use mathlib.Core.List.{List, [], ◌∷◌}
use Prim.Native.Nat.{ℕ}
use Rattle.basics.proofs.Laws.Parts.{entries, all-entries}
use Rattle.plain.specs.Plain.{element, Solves}
use Rattle.plain.proofs.Laws.Solve.{apart}
use Rattle.plain.proofs.Laws.Try.{tried-two}
use Rattle.plain.proofs.solver.two_places.Goals as goal

pub two-v-requires : goal.two-v-requires
two-v-requires c = λ e. apart _ _ c.requires.0 c.requires.1 (sym c.element.ensures ∙ e ∙ c.element-2.ensures)

pub returns : goal.returns
returns c =
    let v : List ℕ = c.two-v.result in
    tried-two c.args.s _ c.args.i c.args.j _ _ _ _ _
    (subst (λ (l : List ℕ). Solves (element c.args.i ∷ element c.args.j ∷ []) (entries 2 0 c.args.s) l) (sym (all-entries 2 v (search rules)))
    (subst₂ (λ (x y : ℕ). Solves (x ∷ y ∷ []) (entries 2 0 c.args.s) v) c.element.ensures c.element-2.ensures c.two-v.ensures))
    c.judged.ensures
