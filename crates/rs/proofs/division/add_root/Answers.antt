-- `rs::division::add_root` meets its contract.
-- Assumes nothing.
use borrow.Author.Rules.{rules}
use mathlib.Core.Path.{◌≡◌, refl, sym, ap, ◌∙◌}
use mathlib.Core.List.{List}
use Prim.Native.Nat.{ℕ}
use native.Mathlib.Numerals.{add-one}
use native.Mathlib.Omega.{arith}
use lib.ListN.{length, drop, get_or}
use mir.Syntax.{w8}
use mir.Val.{Fits}
use Rattle.basics.specs.Below.{Bytes}
use Rattle.basics.proofs.Laws.Below.{at-below}
use Rattle.gf256.specs.Field.{◌⊕◌, pow}
use Rattle.rs.specs.Polynomial.{scale}
use Rattle.rs.proofs.Laws.Polynomial.{length-scale, times-root, raised_sum, raised-none, raised-more, raised-all}
use Rattle.rs.proofs.Laws.Packed.{scale-scale, scale_one}
use Rattle.rs.proofs.division.add_root.Goals as goal

bytes : (p : List ℕ) → ((i : ℕ) → Fits w8 (get_or p i 0)) → Bytes p
bytes p f = at-below 256 p (λ i. (f i).fits)

pub loop-init : goal.loop-init
unfolding pow
loop-init c = sym (scale_one _ (bytes c.args.p.now (λ i. search rules)))

pub loop-preserved : goal.loop-preserved
unfolding pow
loop-preserved c =
    let n : ℕ = c.loop.counter in
    let p : List ℕ = c.args.p.now in
    c.double.ensures ∙ ap (scale 2) c.loop.invariant ∙ scale-scale 2 (pow 2 n) p ∙ ap (λ (n : ℕ). scale (pow 2 n) p) (sym (add-one n))

pub loop-k-init : goal.loop-k-init
loop-k-init c = raised-none c.args.p.now c.loop.p (ap length c.loop.invariant ∙ length-scale _ c.args.p.now ∙ search rules)

pub loop-k-preserved : goal.loop-k-preserved
unfolding ◌⊕◌
loop-k-preserved c = raised-more c.args.p.now c.loop.p c.loop-k.p c.loop-k.k _ (omega arith) c.loop-k.invariant refl

pub returns : goal.returns
returns c =
    let p : List ℕ = c.args.p.now in
    let s : List ℕ = c.loop.p in
    let j : ℕ = c.args.j in
    let long : length p ≡ 6 = search rules in
    let turned : c.loop.counter ≡ j = omega arith in
    let done : c.loop-k.k ≡ 5 = omega arith in
    let scaled : s ≡ scale (pow 2 j) p = c.loop.invariant ∙ ap (λ (n : ℕ). scale (pow 2 n) p) turned in
    raised-all p s c.loop-k.p long (ap length scaled ∙ length-scale _ p ∙ long) c.loop-k.k done c.loop-k.invariant
    ∙ ap (raised_sum p) scaled ∙ ap (drop 1) (sym (times-root (pow 2 j) p (bytes p (λ i. search rules))))
