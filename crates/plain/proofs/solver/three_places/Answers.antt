-- `plain::solver::three_places` meets its contract.
-- Assumes nothing.
use borrow.Author.Rules.{rules}
use mathlib.Core.Path.{sym, ◌∙◌, subst, subst₃}
use mathlib.Core.List.{List, [], ◌∷◌}
use Prim.Native.Nat.{ℕ}
use native.Mathlib.Omega.{arith}
use Rattle.basics.proofs.Laws.Parts.{entries, all-entries}
use Rattle.plain.specs.Plain.{element, Solves}
use Rattle.plain.proofs.Laws.Solve.{apart}
use Rattle.plain.proofs.Laws.Try.{tried-three}
use Rattle.plain.proofs.solver.three_places.Goals as goal

pub three-v-requires : goal.three-v-requires
three-v-requires c =
    let x = c.element-x.ensures in
    let y = c.element-y.ensures in
    let z = c.element-z.ensures in
    let pre = c.requires in
    (λ e. apart _ _ pre.0 (omega arith) (sym x ∙ e ∙ y), λ e. apart _ _ (omega arith) pre.2 (sym x ∙ e ∙ z), λ e. apart _ _ pre.1 pre.2 (sym y ∙ e ∙ z))

pub returns : goal.returns
returns c =
    let v : List ℕ = c.three-v.result in
    tried-three c.args.s _ c.args.i c.args.j c.args.k _ _ _ _ _ _
    (subst (λ (l : List ℕ). Solves (element c.args.i ∷ element c.args.j ∷ element c.args.k ∷ []) (entries 3 0 c.args.s) l) (sym (all-entries 3 v (search rules)))
    (subst₃ (λ (x y z : ℕ). Solves (x ∷ y ∷ z ∷ []) (entries 3 0 c.args.s) v) c.element-x.ensures c.element-y.ensures c.element-z.ensures c.three-v.ensures))
    c.judged.ensures
