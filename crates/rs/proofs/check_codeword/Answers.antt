-- `rs::check_codeword` meets its contract: the packed remainder is 0 exactly where the block is a codeword.
-- Assumes nothing.
use mathlib.Core.Path.{sym, ap, ◌∙◌}
use Rattle.std.specs.Prelude.{Ok}
use mathlib.Core.Bool.{Bool}
use Rattle.basics.proofs.Laws.Below.{at-below}
use Rattle.refusal.proofs.Laws.Chain.{told}
use Rattle.rs.specs.Codeword.{block_refusal}
use Rattle.rs.proofs.Laws.Codeword.{passes-block}
use Rattle.rs.proofs.Laws.Check.{answered, nothing-left}
use Rattle.rs.proofs.check_codeword.Goals as goal

pub returns : goal.returns
unfolding block_refusal
returns c =
    let l = c.args.block.now in
    let long = passes-block l (told (block_refusal l) _ _ (rw c.plain.ensures at c.require.ensures) c.in_ok-require.was) in
    let yes = nothing-left l long (at-below 256 l (λ i. (c.type_inv.block i).fits)) in
    rw c.remainder.ensures (ap (λ (b : Bool). Ok b) yes ∙ sym (answered l long))
