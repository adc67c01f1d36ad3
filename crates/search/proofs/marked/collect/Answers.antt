-- `search::marked::collect` meets its contract.
-- Assumes nothing.
use borrow.Author.Rules.{rules}
use mathlib.Core.Path.{◌≡◌, refl, sym, ◌∙◌, subst₂}
use mathlib.Core.List.{List}
use Prim.Native.Nat.{ℕ, ◌+◌, ◌<◌}
use native.Mathlib.Omega.{arith}
use lib.ListN.{length}
use Rattle.search.specs.declared.errors.Place.{Place}
use Rattle.search.proofs.Laws.Flags.{Collecting, collecting-none, collecting-same, collecting-more, collecting-many, collected, collecting-all}
use Rattle.search.proofs.marked.collect.Goals as goal
use Rattle.search.proofs.marked.collect.Goals.{then-flag-ne0, then-count-lt6, else-count-lt6, else-flag-ne0, then-count-eq0-via-then-count-eq0, then-count-eq0-via-else-count-eq0+then-count-gt6}

pub loop-i-init : goal.loop-i-init
loop-i-init c = collecting-none c.args.flags.now _ refl

pub loop-i-preserved : goal.loop-i-preserved
loop-i-preserved c =
    let l = c.loop-i in
    let fs : List ℕ = c.args.flags.now in
    let whole : length c.args.flags.now ≡ 254 = search rules in
    let h : l.i < 254 = omega arith in
    elim c.if-flag-ne0.branch [
      | then-flag-ne0 w ↦
          elim w.if-count-lt6.branch [
            | then-count-lt6 v ↦
                subst₂ (λ (p : List Place) (n : ℕ). Collecting fs p n (l.i + 1)) (sym (w.places-is ∙ v.places-is)) (sym w.count-is)
                (collecting-more fs whole l.places l.count l.i l.invariant h w.if-flag-ne0.true v.if-count-lt6.true _ refl)
            | else-count-lt6 v ↦
                subst₂ (λ (p : List Place) (n : ℕ). Collecting fs p n (l.i + 1)) (sym (w.places-is ∙ v.places-is)) (sym w.count-is)
                (collecting-many fs whole l.places l.count l.i l.invariant h w.if-flag-ne0.true v.if-count-lt6.false)
          ]
      | else-flag-ne0 w ↦
          subst₂ (λ (p : List Place) (n : ℕ). Collecting fs p n (l.i + 1)) (sym w.places-is) (sym w.count-is)
          (collecting-same fs whole l.places l.count l.i l.invariant h w.if-flag-ne0.false)
    ]

pub returns-then-count-eq0 : goal.returns-then-count-eq0
returns-then-count-eq0 c =
    let l = c.loop-i in
    let whole : length c.args.flags.now ≡ 254 = search rules in
    let n = collected c.args.flags.now l.places l.count l.i whole (omega arith) l.invariant in
    elim c.then-count-eq0.branch [
      | then-count-eq0-via-then-count-eq0 w ↦ λ h. omega (arith, n, w.if-count-eq0.true)
      | then-count-eq0-via-else-count-eq0+then-count-gt6 w ↦ λ h. omega (arith, n, w.if-count-gt6.true)
    ]

pub returns : goal.returns
returns c =
    let l = c.loop-i in
    let whole : length c.args.flags.now ≡ 254 = search rules in
    collecting-all c.args.flags.now l.places l.count l.i whole (omega arith) l.invariant _ refl refl
