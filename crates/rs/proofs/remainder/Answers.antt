-- `rs::remainder` meets its contract: the six bytes of the packed remainder.
-- Assumes nothing.
use Rattle.basics.proofs.Laws.Below.{at-below}
use Rattle.refusal.proofs.Laws.Chain.{told}
use Rattle.rs.specs.Codeword.{block_refusal}
use Rattle.rs.proofs.Laws.Codeword.{passes-block, divided-long}
use Rattle.rs.proofs.Laws.Packed.{left-unpacked}
use Rattle.rs.proofs.remainder.Goals as goal

pub returns : goal.returns
unfolding block_refusal
returns c =
    let l = c.args.block.now in
    let long = passes-block l (told (block_refusal l) _ _ (rw c.plain.ensures at c.require.ensures) c.in_ok-require.was) in
    let bytes = left-unpacked l long (at-below 256 l (λ i. (c.type_inv.block i).fits)) in
    let whole = divided-long l long in
    cc (c.unpack.ensures, c.remainder.ensures)
