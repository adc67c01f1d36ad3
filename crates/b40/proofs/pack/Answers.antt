-- `b40::pack` meets its contract, by what its checks said.
-- Assumes nothing.
use mathlib.Core.Path.{◌≡◌, sym, ap, ◌∙◌}
use mathlib.Core.List.{List}
use Prim.Native.Nat.{ℕ}
use borrow.Author.Rules.{rules}
use lib.ListN.{length}
use Rattle.std.proofs.lemmas.Result.{MatchResult-at_ok}
use Rattle.std.specs.Prelude.{Ok}
use Rattle.refusal.specs.Checked.{Checked, checked_of}
use Rattle.refusal.proofs.Laws.Chain.{done-is, left-by}
use Rattle.anc.specs.Words.{narrow}
use Rattle.b40.specs.Field.{field_of}
use Rattle.b40.specs.Packing.{pack_refusal, packed_of, pack_leaves}
use Rattle.b40.proofs.Laws.Packing.{Accepts, accepts}
use Rattle.b40.proofs.pack.Goals as goal

-- what the checks let through
passed : {line offset room : ℕ} {words : List ℕ} {a : Checked} → a ≡ Ok tt → a ≡ checked_of (pack_refusal line offset words room) → Accepts line offset words room
passed h e = accepts _ _ _ _ (done-is _ (sym h ∙ e))

pub unwrap-requires : goal.unwrap-requires
unwrap-requires c =
    let A = passed c.in_ok-check_packing.was c.check_packing.ensures in
    c.try_into.ensures.0 A.long

pub unwrap-requires-2 : goal.unwrap-requires-2
unwrap-requires-2 c =
    let A = passed c.in_ok-check_packing.was c.check_packing.ensures in
    search rules

pub write_bytes-requires : goal.write_bytes-requires
write_bytes-requires c =
    let A = passed c.in_ok-check_packing.was c.check_packing.ensures in
    let words = MatchResult-at_ok _ _ _ c.unwrap.ensures c.try_into.ensures.1 in
    (ap narrow words.same ∙ A.tens, A.place)

pub returns : goal.returns
unfolding packed_of pack_leaves
returns c =
    let a = c.args in
    let all = sym c.in_ok-check_packing.was ∙ c.check_packing.ensures in
    let o = pack_refusal a.line a.offset a.words.now (length a.out.now) in
    let words = MatchResult-at_ok _ _ _ c.unwrap.ensures c.try_into.ensures.1 in
    (all, rw words.same at c.write_bytes.ensures ∙ left-by o (field_of a.yc a.line a.offset a.words.now) a.out.now all)
