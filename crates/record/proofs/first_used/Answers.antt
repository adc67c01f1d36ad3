-- `record::first_used` meets its contract.
-- Assumes nothing.
use mathlib.Core.Path.{◌≡◌}
use mathlib.Core.Option.{some}
use Prim.Native.Nat.{◌+◌}
use native.Mathlib.Omega.{arith}
use lib.ListN.{get_or}
use Rattle.std.specs.Prelude.{Ok}
use Rattle.refusal.proofs.Laws.Run.{walked_on, walked-stops, walked_all}
use Rattle.record.specs.Reserved.{used_at}
use Rattle.record.proofs.first_used.Goals as goal

pub returns-in_err-require : goal.returns-in_err-require
returns-in_err-require c =
    let l = c.loop-i in
    let a = c.args in
    let here : used_at (a.first + l.i) (get_or a.bytes.now l.i 0) ≡ some c.in_err-require.field-0.0 = grind arith in
    let h = walked-stops used_at a.first a.bytes.now l.i l.invariant (omega arith) _ here in
    grind arith

pub loop-i-preserved : goal.loop-i-preserved
loop-i-preserved c =
    let l = c.loop-i in
    let a = c.args in
    walked_on used_at a.first a.bytes.now l.i l.invariant (omega arith) (grind arith)

pub returns : goal.returns
returns c =
    let l = c.loop-i in
    let a = c.args in
    walked_all used_at a.first a.bytes.now l.i (Ok tt) l.invariant (omega arith)
