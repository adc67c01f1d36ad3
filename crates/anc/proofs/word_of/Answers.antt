-- `anc::word_of` meets its contract, by the parts of a byte's word.
-- Assumes nothing.
use Rattle.std.proofs.Common.{◌≡◌, ℕ, ◌<◌, arith, w8, Fits, rules}
use Rattle.anc.specs.Word.{parity_of}
use Rattle.anc.proofs.Laws.Bits.{parity-lt}
use Rattle.anc.proofs.Laws.Word.{word_sum}
use Rattle.anc.proofs.word_of.Goals as goal

pub overflow_sub-parity : goal.overflow_sub-parity
overflow_sub-parity c =
    let p : c.parity.result < 2 = rw c.parity.ensures (parity-lt _) in
    omega arith

pub returns : goal.returns
returns c =
    let b : ℕ = c.args.byte in
    let f : Fits w8 b = search rules in
    let e : c.parity.result ≡ parity_of b = c.parity.ensures in
    omega (arith, parity-lt b, word_sum b f.fits)
