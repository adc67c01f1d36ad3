-- `search::mend_marks` meets its contract: what was found leads to the codeword of the first rule, and where it does not have the sums there is none.
-- Assumes nothing.
use mir.Val.{Fits}
use mir.Syntax.{w8}
use mathlib.Core.Path.{◌≡◌}
use lib.ListN.{length, get_or}
use borrow.Author.Rules.{rules}
use Rattle.basics.proofs.Laws.Below.{at-below}
use Rattle.search.proofs.Laws.First.{found-marked, lost-marked}
use Rattle.search.proofs.mend_marks.Goals as goal

pub returns : goal.returns
returns c =
    let block = c.args.block.now in
    let bytes = at-below 256 block (λ i. let b : Fits w8 (get_or block i 0) = search rules in b.fits) in
    let after = c.mend_by.new.block in
    let m = c.args.marks in
    let six : length c.args.marks.places ≡ 6 = search rules in
    let fs = c.find_marked-errors.result in
    let n : length c.find_marked-errors.result ≡ 6 = search rules in
    let S = c.find_marked-errors.ensures in
    record {
      found = λ q marks em M.
          let R = c.mend_by.ensures.right q in
          found-marked block _ _ bytes c.requires c.sums-s.ensures m m.few six fs S n marks em M R.1 after (at-below 256 after (λ i. (c.type_inv.block i).fits)) R.2;
      lost = λ q marks em M. lost-marked block _ _ bytes c.requires c.sums-s.ensures m m.few six fs S n marks em M (c.mend_by.ensures.wrong q);
      kept = c.mend_by.ensures.kept;
    }
