-- `search::solver::two_errors` meets its contract: the places are the roots of the locator.
-- Assumes nothing.
use mathlib.Core.Path.{refl, sym, ap, ◌∙◌}
use Prim.Native.Nat.{ℕ}
use native.Mathlib.Omega.{arith}
use Rattle.basics.proofs.Laws.Test.{never}
use Rattle.basics.proofs.Laws.Parts.{same-cons}
use Rattle.gf256.specs.Field.{◌⊕◌}
use Rattle.search.proofs.Laws.Errors.{not-two}
use Rattle.search.proofs.Laws.Two.{steps-two, no-top-two, top-two, other-two, value-two, left-two}
use Rattle.search.proofs.solver.two_errors.Goals as goal

pub returns-then-not-steps : goal.returns-then-not-steps
returns-then-not-steps c =
    not-two c.args.n c.args.s
    (λ k y m z hk hm py hy pz hz E.
    never (sym (c.steps.ensures (steps-two _ k y m z _ hk hm py hy pz hz c.requires.0 E _ c.locator_two-l.ensures)) ∙ c.if-not-steps.true))

pub returns-in_err-first : goal.returns-in_err-first
returns-in_err-first c =
    rw c.from_residual.ensures
    (not-two c.args.n c.args.s (λ k y m z hk hm py hy pz hz E. no-top-two _ k y m z _ hk hm py hy pz hz c.requires.0 E _ c.locator_two-l.ensures c.in_err-first.ensures))

pub returns-in_err-second : goal.returns-in_err-second
returns-in_err-second c =
    let l = c.locator_two-l in
    rw c.from_residual-in_err-second.ensures
    (not-two c.args.n c.args.s
    (λ k y m z hk hm py hy pz hz E.
    let top = top-two _ k y m z _ hk hm py hy pz hz c.requires.0 E _ l.ensures _ c.in_ok-first.ensures in
    c.in_err-second.ensures.at m (omega arith)
    (other-two _ k y m z _ hk hm py hy pz hz c.requires.0 E _ l.ensures _ _ top (c.sum-z.ensures ∙ ap (λ (p : ℕ). p ⊕ l.result.a) c.element.ensures))))

pub returns : goal.returns
returns c =
    let l = c.locator_two-l in
    record {
      finds = λ k y m z hk hm py hy pz hz E.
          let top = top-two _ k y m z _ hk hm py hy pz hz c.requires.0 E _ l.ensures _ c.in_ok-first.ensures in
          let other = other-two _ k y m z _ hk hm py hy pz hz c.requires.0 E _ l.ensures _ _ top (c.sum-z.ensures ∙ ap (λ (p : ℕ). p ⊕ l.result.a) c.element.ensures) in
          let value = value-two _ k y m z _ hk hm py hy pz hz c.requires.0 E _ l.ensures _ _ _ other c.plus_times.ensures c.quotient-y.ensures in
          record {
            places = same-cons top (same-cons (c.in_ok-second.ensures.at m (omega arith) other) refl);
            values = same-cons value (same-cons (left-two _ k y m z _ hk hm py hy pz hz c.requires.0 E _ l.ensures _ _ value c.sum.ensures) refl);
          };
    }
