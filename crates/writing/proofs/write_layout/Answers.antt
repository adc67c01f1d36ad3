-- `writing::write_layout` meets its contract: behind the checks the whole buffer is the packet.
-- Assumes nothing.
use borrow.Author.Rules.{rules}
use Rattle.std.proofs.lemmas.Result.{MatchResult-at_ok}
use Rattle.writing.specs.Writing.{given_refusal, layout_refusal}
use Rattle.writing.specs.Written.{layout_of, layout_leaves}
use Rattle.writing.proofs.write_layout.Goals as goal

pub returns : goal.returns
unfolding layout_of layout_leaves layout_refusal given_refusal
returns c =
    let bytes = MatchResult-at_ok _ _ _ c.unwrap.ensures c.try_into.ensures.1 in
    let packet = rw bytes.same at c.fill.ensures in
    search rules
