-- `search::solver::three_errors` meets its contract: the first place is a root of the locator, and two errors are left once it is killed.
-- Assumes nothing.
use borrow.Author.Rules.{rules}
use mathlib.Core.Path.{◌≡◌, refl, ap, ◌∙◌}
use lib.ListN.{length}
use Rattle.basics.proofs.Laws.Parts.{same-cons}
use Rattle.gf256.specs.Field.{◌⊕◌}
use Rattle.search.proofs.Laws.Errors.{not_three}
use Rattle.search.proofs.Laws.Three.{no-top-three, top-three, no-two-left, second-place, third-place, first-value, second-value, third-value}
use Rattle.search.proofs.solver.three_errors.Goals as goal

pub returns-in_err-first : goal.returns-in_err-first
returns-in_err-first c =
    rw c.from_residual.ensures
    (not_three c.args.s
    (λ k y m z i w hk hm hi py hy pz hz pw hw E. no-top-three k y m z i w _ hk hm hi py hy pz hz pw hw E _ c.locator_three.ensures c.in_err-first.ensures))

pub returns-in_err-left : goal.returns-in_err-left
returns-in_err-left c =
    rw c.from_residual-in_err-left.ensures
    (not_three c.args.s
    (λ k y m z i w hk hm hi py hy pz hz pw hw E.
    let top = top-three k y m z i w _ hk hm hi py hy pz hz pw hw E _ c.locator_three.ensures _ c.in_ok-first.ensures in
    no-two-left k y m z i w _ hk hm hi py hy pz hz pw hw E _ top _ c.element-x.ensures _ c.kill.ensures c.in_err-left.ensures))

pub returns : goal.returns
returns c =
    let left = c.in_ok-left.left in
    let two : length c.in_ok-left.left ≡ 2 = search rules in
    record {
      finds = λ k y m z i w hk hm hi py hy pz hz pw hw E.
          let top = top-three k y m z i w _ hk hm hi py hy pz hz pw hw E _ c.locator_three.ensures _ c.in_ok-first.ensures in
          let F = c.in_ok-left.ensures in
          let second = second-place k y m z i w _ hk hm hi py hy pz hz pw hw E _ top _ c.element-x.ensures _ c.kill.ensures left F two c.index-left-0.result in
          let third = third-place k y m z i w _ hk hm hi py hy pz hz pw hw E _ top _ c.element-x.ensures _ c.kill.ensures left F two c.index-left-1.result in
          let b = second-value k y m z i w _ hk hm hi py hy pz hz pw hw E _ top _ c.element-x.ensures _ c.kill.ensures left F two _ _ _ _ second
          (c.sum.ensures ∙ ap (◌⊕◌ c.element-x.result) c.element.ensures) c.quotient-y.ensures in
          let d = third-value k y m z i w _ hk hm hi py hy pz hz pw hw E _ top _ c.element-x.ensures _ c.kill.ensures left F two _ _ _ _ third
          (c.sum-2.ensures ∙ ap (◌⊕◌ c.element-x.result) c.element-2.ensures) c.quotient-z.ensures in
          record {
            places = same-cons top (same-cons second (same-cons third refl));
            values = same-cons (first-value k y m z i w _ hk hm hi py hy pz hz pw hw E _ top _ c.element-x.ensures _ c.kill.ensures _ _ _ b d c.sum3.ensures) (same-cons b (same-cons d refl));
          };
    }
