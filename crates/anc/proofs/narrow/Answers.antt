-- `anc::narrow` meets its contract.
-- Assumes nothing.
use Rattle.std.proofs.Common.{ℕ, List, get_or, ap, ◌∙◌, arith}
use Rattle.basics.proofs.Laws.Each.{passing-more, passing-all}
use Rattle.anc.specs.Words.{narrow}
use Rattle.anc.proofs.Laws.Words.{max-fits}
use Rattle.anc.proofs.narrow.Invariants.{fits}
use Rattle.anc.proofs.narrow.Goals as goal

pub loop-word-preserved : goal.loop-word-preserved
loop-word-preserved c =
    let l = c.loop-word in
    let ws : List ℕ = c.args.words.now in
    let word : ℕ = get_or ws l.word-index 0 in
    passing-more fits ws l.word-index (fits l.top) (fits c.max-top.result) l.invariant (omega arith) (ap fits c.max-top.ensures ∙ max-fits l.top word)

pub returns : goal.returns
unfolding narrow
returns c =
    let l = c.loop-word in
    passing-all fits c.args.words.now l.word-index (fits l.top) l.invariant (omega arith)
