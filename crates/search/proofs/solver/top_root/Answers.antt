-- `search::solver::top_root` meets its contract: no place above k is a root.
-- Assumes nothing.
use borrow.Author.Rules.{rules}
use mir.Val.{Fits}
use mir.Syntax.{w8}
use mathlib.Core.Path.{◌≡◌, sym, ap, ap₂, ◌∙◌}
use mathlib.Core.Logic.{⊎_elim}
use Prim.Native.Nat.{ℕ, ◌+◌, ◌-◌, ◌<◌}
use native.Mathlib.Nat.{eq-or-lt_of_le}
use native.Mathlib.Omega.{arith}
use Rattle.gf256.specs.Field.{◌⊕◌}
use Rattle.gf256.proofs.Laws.Lent.{on-wheel}
use Rattle.search.proofs.Laws.Root.{indexed, scanned, top-found, top-none}
use Rattle.search.proofs.solver.top_root.Goals as goal

pub returns-then-sum3-l : goal.returns-then-sum3-l
unfolding scanned
returns-then-sum3-l c =
    let k : ℕ = c.loop-k.k - 1 in
    let W = c.wheel-wheel.ensures in
    let q = c.args.l in
    let b : Fits w8 c.args.l.b = search rules in
    top-found q _ _ (indexed q.a _ c.log.result c.log.ensures c.unwrap_or-la.ensures) (indexed q.c _ c.log-2.result c.log-2.ensures c.unwrap_or-lc.ensures) b.fits _
    (sym (c.sum3.ensures ∙ ap₂ ◌⊕◌ (ap₂ ◌⊕◌ (W.at (k + k) (omega arith)) (on-wheel _ (c.unwrap_or-la.result + k) W)) (on-wheel _ (c.unwrap_or-lc.result + 255 - k) W)) ∙ c.if-sum3-l.true)
    (λ j h l. c.loop-k.invariant j (omega arith) l)

pub loop-k-preserved : goal.loop-k-preserved
unfolding scanned
loop-k-preserved c =
    let k : ℕ = c.loop-k.k - 1 in
    let W = c.wheel-wheel.ensures in
    let sum = c.sum3.ensures ∙ ap₂ ◌⊕◌ (ap₂ ◌⊕◌ (W.at (k + k) (omega arith)) (on-wheel _ (c.unwrap_or-la.result + k) W)) (on-wheel _ (c.unwrap_or-lc.result + 255 - k) W) in
    λ j h b e.
    ⊎_elim (λ (z : k ≡ j). c.if-sum3-l.false (sum ∙ ap (scanned c.unwrap_or-la.result c.unwrap_or-lc.result) z ∙ e))
    (λ (l : k < j). c.loop-k.invariant j (omega arith) b e) (eq-or-lt_of_le h)

pub returns : goal.returns
returns c =
    let q = c.args.l in
    let b : Fits w8 c.args.l.b = search rules in
    top-none q _ _ (indexed q.a _ c.log.result c.log.ensures c.unwrap_or-la.ensures) (indexed q.c _ c.log-2.result c.log-2.ensures c.unwrap_or-lc.ensures) b.fits
    (λ j h. c.loop-k.invariant j (omega arith) h)
