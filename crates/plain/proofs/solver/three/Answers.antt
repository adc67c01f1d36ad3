-- `plain::solver::three` meets its contract.
-- Assumes nothing.
use mathlib.Core.Path.{sym, ◌∙◌, ap, subst₂, subst}
use mathlib.Core.List.{List, [], ◌∷◌}
use mir.Val.{Fits}
use mir.Syntax.{w8}
use Prim.Native.Nat.{ℕ}
use lib.ListN.{get_or}
use Rattle.basics.proofs.Laws.Parts.{all-entries}
use Rattle.gf256.specs.Field.{◌⊕◌, over}
use Rattle.plain.specs.Plain.{Solves}
use Rattle.plain.proofs.Laws.Solve.{three-solved}
use borrow.Author.Rules.{rules}
use Rattle.plain.proofs.solver.three.Goals as goal

pub returns : goal.returns
returns c =
    let x : Fits w8 c.args.x = search rules in
    let y : Fits w8 c.args.y = search rules in
    let z : Fits w8 c.args.z = search rules in
    let left = subst (λ (l : List ℕ). Solves (c.args.y ∷ c.args.z ∷ []) (c.killed-p.result ∷ c.killed-q.result ∷ []) l) (sym (all-entries 2 c.two-left.result (search rules))) c.two-left.ensures in
    three-solved _ _ _ _ _ _ _ _ x.fits y.fits z.fits c.requires.0 c.requires.1
    (subst₂ (λ (s t : ℕ). Solves (c.args.y ∷ c.args.z ∷ []) (s ∷ t ∷ []) (get_or c.two-left.result 0 0 ∷ get_or c.two-left.result 1 0 ∷ []))
    c.killed-p.ensures c.killed-q.ensures left) _ _ _
    (c.quotient-b.ensures ∙ ap (over (get_or c.two-left.result 0 0)) c.sum.ensures) (c.quotient-c.ensures ∙ ap (over (get_or c.two-left.result 1 0)) c.sum-2.ensures)
    (c.sum-4.ensures ∙ ap (◌⊕◌ c.args.s) c.sum-3.ensures)
