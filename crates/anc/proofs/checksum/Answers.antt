-- `anc::checksum` meets its contract.
-- Assumes nothing.
use Rattle.std.proofs.Common.{◌<◌, length, arith}
use Rattle.anc.proofs.Laws.Checksum.{total-more, wrap-more}
use Rattle.anc.proofs.checksum.Goals as goal

pub loop-word-preserved : goal.loop-word-preserved
loop-word-preserved c =
    let l = c.loop-word in
    let ws = c.args.words.now in
    let h : l.word-index < length ws = omega arith in
    rw (total-more ws l.word-index h) (wrap-more _ _ _ l.invariant)
