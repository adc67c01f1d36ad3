-- `search::solver::value` meets its contract: a byte at a time.
-- Assumes nothing.
use borrow.Author.Rules.{rules}
use mir.Val.{Fits}
use mir.Syntax.{w8}
use mathlib.Core.Path.{ap, ◌∙◌}
use Prim.Native.Nat.{ℕ}
use lib.ListN.{get_or}
use lib.Seq.{take_all}
use Rattle.gf256.specs.Field.{◌⊕◌}
use Rattle.rs.specs.Polynomial.{value_at}
use Rattle.rs.proofs.Laws.Polynomial.{value-none, value-more}
use Rattle.search.proofs.solver.value.Goals as goal

pub loop-byte-init : goal.loop-byte-init
loop-byte-init c = value-none c.args.x c.args.bytes

pub loop-byte-preserved : goal.loop-byte-preserved
loop-byte-preserved c =
    let l = c.loop-byte in
    let b : Fits w8 (get_or c.args.bytes l.byte-index 0) = search rules in
    c.sum-v.ensures ∙ ap (λ (p : ℕ). p ⊕ get_or c.args.bytes l.byte-index 0) c.product.ensures
    ∙ value-more c.args.x c.args.bytes l.v l.byte-index (search rules) b.fits l.invariant

pub returns : goal.returns
returns c = let l = c.loop-byte in l.invariant ∙ ap (value_at c.args.x) (take_all l.byte-index c.args.bytes (search rules))
