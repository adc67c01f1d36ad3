-- `search::marked::located` meets its contract: each answer is one case of how many errors are left once the marked places are killed.
-- Assumes nothing.
use borrow.Author.Rules.{rules}
use mathlib.Core.Path.{◌≡◌, sym, ap, ◌∙◌}
use mathlib.Core.Bool.{Bool, true, false, not, ◌&&◌}
use Prim.Native.Nat.{ℕ}
use lib.Dec.{leb, eqb}
use lib.ListN.{length}
use Rattle.search.proofs.Laws.Located.{no-two, no-one, at-two, at_one, at_none}
use Rattle.search.proofs.marked.located.Goals as goal

-- the test for two errors, by what the determinant is
told : (f d e : ℕ) (t : Bool) → d ≡ e → (leb f 2 && not (eqb d 0)) ≡ t → (leb f 2 && not (eqb e 0)) ≡ t
told f d e t q p = ap (λ (x : ℕ). leb f 2 && not (eqb x 0)) (sym q) ∙ p

pub returns-in_default : goal.returns-in_default
returns-in_default c =
    let six : length c.args.marks.places ≡ 6 = search rules in
    no-two c.args.s c.args.marks c.args.marks.any c.args.marks.few six c.kill_places.result.left c.kill_places.ensures.left
    (told c.args.marks.count c.cross-determinant.result _ true c.cross-determinant.ensures c.if-f-determinant.true) c.in_default.ensures

pub returns-then-f-determinant : goal.returns-then-f-determinant
returns-then-f-determinant c =
    let six : length c.args.marks.places ≡ 6 = search rules in
    let two : length c.in-Some.two ≡ 2 = search rules in
    at-two c.args.s c.args.marks c.args.marks.any c.args.marks.few six c.kill_places.result.left c.kill_places.ensures.left c.in-Some.two _ _ c.with_one-then-f-determinant.result
    two (told c.args.marks.count c.cross-determinant.result _ true c.cross-determinant.ensures c.if-f-determinant.true) c.in-Some.ensures c.with_one.result c.with_one.ensures c.with_one-then-f-determinant.ensures

pub returns-in_default-one_error : goal.returns-in_default-one_error
returns-in_default-one_error c =
    let six : length c.args.marks.places ≡ 6 = search rules in
    no-one c.args.s c.args.marks c.args.marks.any c.args.marks.few six c.kill_places.result.left c.kill_places.ensures.left
    (told c.args.marks.count c.cross-determinant.result _ false c.cross-determinant.ensures c.if-f-determinant.false) c.if-f-first.true c.in_default-one_error.ensures

pub returns-then-f-first : goal.returns-then-f-first
returns-then-f-first c =
    let six : length c.args.marks.places ≡ 6 = search rules in
    let one : length c.in-Some-one_error.one ≡ 1 = search rules in
    at_one c.args.s c.args.marks c.args.marks.any c.args.marks.few six c.kill_places.result.left c.kill_places.ensures.left c.in-Some-one_error.one _ c.index-one-0.result c.with_one-then-f-first.result
    one (told c.args.marks.count c.cross-determinant.result _ false c.cross-determinant.ensures c.if-f-determinant.false) c.if-f-first.true c.in-Some-one_error.ensures c.with_one-then-f-first.ensures

pub returns : goal.returns
returns c =
    let six : length c.args.marks.places ≡ 6 = search rules in
    at_none c.args.s c.args.marks c.args.marks.any c.args.marks.few six c.kill_places.result.left c.kill_places.ensures.left
    (told c.args.marks.count c.cross-determinant.result _ false c.cross-determinant.ensures c.if-f-determinant.false) c.if-f-first.false
