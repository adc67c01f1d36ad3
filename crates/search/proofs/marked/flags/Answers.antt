-- `search::marked::flags` meets its contract.
-- Assumes nothing.
use borrow.Author.Rules.{rules}
use mathlib.Core.Path.{◌≡◌, sym, ◌∙◌}
use mathlib.Core.List.{List, map}
use Prim.Native.Nat.{ℕ}
use native.Mathlib.Omega.{arith}
use lib.ListN.{length}
use Rattle.basics.proofs.Laws.Parts.{filling-more}
use Rattle.search.specs.SearchMarked.{flag_of}
use Rattle.search.proofs.Laws.Flags.{flags-length, flags-at}
use Rattle.search.proofs.marked.flags.Goals as goal

-- as many are made as there is room for
long : (words out : List ℕ) → length words ≡ 254 → length out ≡ 254 → length (map flag_of words) ≡ length out
long words out e f = flags-length words ∙ e ∙ sym f

pub loop-i-preserved : goal.loop-i-preserved
loop-i-preserved c =
    let l = c.loop-i in
    let xs : List ℕ = c.args.words.now in
    let old : List ℕ = c.args.out.now in
    let many : length c.args.words.now ≡ 254 = search rules in
    let room : length c.args.out.now ≡ 254 = search rules in
    filling-more (map flag_of xs) old (long xs old many room) l.out l.i _ l.invariant (omega arith) (flags-at xs l.i (omega arith) ∙ sym c.flag.ensures)
