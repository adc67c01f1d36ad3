-- `record::put_item` meets its contract: the part that is copied over is the item's place.
-- Assumes nothing.
use mathlib.Core.Path.{◌≡◌}
use native.Mathlib.Omega.{arith}
use lib.ListN.{length}
use Rattle.items.proofs.Laws.Item.{place-given}
use Rattle.record.proofs.Laws.Stored.{put-checks, put-laid}
use Rattle.record.specs.Stored.{put_leaves}
use Rattle.record.proofs.put_item.Goals as goal

pub returns-in_err-require-2 : goal.returns-in_err-require-2
unfolding put_leaves
returns-in_err-require-2 c = (grind (arith, put-checks), grind (arith, put-checks))

pub returns : goal.returns
returns c =
    let a = c.args in
    let p = c.in_ok-place.place in
    let given = place-given a.number p c.in_ok-place.ensures.value in
    let long : length a.bytes.now ≡ p.length = grind arith in
    let room : length a.out.now ≡ 248 = grind arith in
    (grind (arith, put-checks), put-laid a.number p a.bytes.now a.out.now _ given.1 given.0 long room c.copy_from_slice.ensures.after)
