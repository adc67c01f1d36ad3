-- `plain::mend` meets its contract.
-- Assumes nothing.
use mathlib.Core.Path.{sym, ap, ap₂, ◌∙◌}
use mathlib.Core.List.{List}
use Prim.Native.Nat.{ℕ}
use native.Mathlib.Numerals.{add-one}
use lib.ListN.{set, drop, get_or, drop_of_length-le}
use lib.Seq.{drop-cons}
use borrow.Author.Rules.{rules}
use Rattle.plain.specs.Plain.{mended}
use Rattle.plain.specs.declared.errors.Error.{Error}
use Rattle.plain.proofs.mend.Goals as goal

pub loop-e-preserved : goal.loop-e-preserved
loop-e-preserved c =
    let l = c.loop-e in
    let es : List Error = c.args.errors in
    let e : Error = get_or es l.e-index c.e-item.result in
    ap₂ (λ (b : List ℕ) (k : ℕ). mended b (drop k es)) (ap (set l.block e.place) c.sum.ensures) (add-one l.e-index)
    ∙ ap (mended l.block) (sym (drop-cons es l.e-index c.e-item.result (search rules))) ∙ l.invariant

pub returns : goal.returns
returns c =
    let l = c.loop-e in
    let es : List Error = c.args.errors in
    ap (mended l.block) (sym (drop_of_length-le es {i = l.e-index} (search rules))) ∙ l.invariant
