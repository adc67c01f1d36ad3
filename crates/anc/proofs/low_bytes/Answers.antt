-- `anc::low_bytes` meets its contract.
-- Assumes nothing.
use Rattle.std.proofs.Common.{◌≡◌, ℕ, List, length, arith}
use Rattle.std.proofs.lemmas.Result.{err_from_is_err_and}
use Rattle.basics.proofs.Laws.Parts.{filling-more, filling-all}
use Rattle.anc.specs.Words.{low_bytes}
use Rattle.anc.proofs.Laws.Words.{low_bytes-length, low_bytes-at, has-room, no-room, filled-whole}
use Rattle.anc.proofs.low_bytes.Goals as goal

pub returns-in_err-require : goal.returns-in_err-require
returns-in_err-require c =
    let a = c.args in
    let p = err_from_is_err_and c.from_residual.result c.from_residual.ensures.1 in
    let e = c.require.ensures in
    rw (p.1, p.2) (no-room (low_bytes a.words.now) a.out.now _ (low_bytes-length a.words.now) (rw c.plain.ensures at e) _ c.in_err-require.was)

pub loop-i-preserved : goal.loop-i-preserved
loop-i-preserved c =
    let l = c.loop-i in
    let xs : List ℕ = c.args.words.now in
    let old : List ℕ = c.args.out.now in
    let e = c.require.ensures in
    let long : length (low_bytes xs) ≡ length old = has-room (low_bytes xs) old _ (low_bytes-length xs) (rw c.plain.ensures at e) c.in_ok-require.was in
    let m : length (low_bytes xs) ≡ length xs = low_bytes-length xs in
    filling-more (low_bytes xs) old long l.out l.i _ l.invariant (omega arith) (low_bytes-at xs l.i (omega arith))

pub returns : goal.returns
returns c =
    let l = c.loop-i in
    let xs : List ℕ = c.args.words.now in
    let old : List ℕ = c.args.out.now in
    let e = c.require.ensures in
    let long : length (low_bytes xs) ≡ length old = has-room (low_bytes xs) old _ (low_bytes-length xs) (rw c.plain.ensures at e) c.in_ok-require.was in
    let m : length (low_bytes xs) ≡ length xs = low_bytes-length xs in
    filled-whole (low_bytes xs) old long l.out (filling-all (low_bytes xs) old long l.out l.i l.invariant (omega arith))
