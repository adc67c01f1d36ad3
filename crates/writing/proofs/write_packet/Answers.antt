-- `writing::write_packet` meets its contract: each check that failed is the refusal, and behind them the packet of the record is written.
-- Assumes nothing.
use mathlib.Core.Path.{◌≡◌, refl, sym, ap, ◌∙◌}
use mathlib.Core.List.{List}
use Prim.Native.Nat.{ℕ, ◌≤◌}
use lib.ListN.{length, replicate}
use Rattle.std.specs.Prelude.{Ok, is_ok}
use Rattle.refusal.specs.Checked.{Checked, checked_of}
use Rattle.refusal.proofs.Laws.Chain.{chained-none, handed-on, went-past, stopped-at, done-is, kept-by}
use Rattle.record.proofs.Laws.Record.{record-fits}
use Rattle.record.proofs.Laws.Reserved.{content-decides}
use Rattle.writing.specs.Writing.{write_refusal, given_refusal, written_words}
use Rattle.writing.specs.Written.{written_of, write_leaves}
use Rattle.writing.proofs.Laws.Writing.{given-passed, written-as-layout}
use Rattle.writing.proofs.write_packet.Goals as goal

pub returns-in_err-check_given : goal.returns-in_err-check_given
unfolding written_of write_leaves write_refusal
returns-in_err-check_given c =
    let a = c.args in
    let e = stopped-at _ _ chained-none c.check_given.ensures c.in_err-check_given.was in
    rw (handed-on _ c.from_residual.ensures.1) (e, kept-by (write_refusal a.ci a.bytes.now (length a.out.now)) (written_words a.correction a.ci a.bytes.now) a.out.now _ e)

-- nothing that is given is refused
given : (ci : ℕ) (bytes : List ℕ) {a : Checked} → a ≡ checked_of (given_refusal ci bytes) → a ≡ Ok tt → (length bytes ≡ 248) × (ci ≤ 15)
given ci bytes e h = given-passed ci bytes (done-is _ (sym h ∙ e))

pub returns-in_err-record_refusal : goal.returns-in_err-record_refusal
unfolding written_of write_leaves write_refusal
returns-in_err-record_refusal c =
    let a = c.args in
    let g = given a.ci a.bytes.now c.check_given.ensures c.in_ok-check_given.was in
    let past = went-past _ chained-none c.check_given.ensures c.in_ok-check_given.was in
    let e = stopped-at _ _ past (c.record_refusal.ensures ∙ ap checked_of (content-decides a.bytes.now g.0)) c.in_err-record_refusal.was in
    rw (handed-on _ c.from_residual-in_err-record_refusal.ensures.1) (e, kept-by (write_refusal a.ci a.bytes.now (length a.out.now)) (written_words a.correction a.ci a.bytes.now) a.out.now _ e)

pub unwrap-requires : goal.unwrap-requires
unwrap-requires c =
    let a = c.args in
    let g = given a.ci a.bytes.now c.check_given.ensures c.in_ok-check_given.was in
    ap is_ok (c.write_record.ensures.0 ∙ ap checked_of (record-fits a.bytes.now (replicate 248 0) g.0 refl))

pub returns : goal.returns
returns c =
    let a = c.args in
    let g = given a.ci a.bytes.now c.check_given.ensures c.in_ok-check_given.was in
    let k = done-is _ (sym c.in_ok-record_refusal.was ∙ c.record_refusal.ensures ∙ ap checked_of (content-decides a.bytes.now g.0)) in
    let A = written-as-layout a.correction a.ci a.bytes.now a.out.now g.0 g.1 k (replicate 248 0) _ refl c.write_record.ensures.1 in
    (c.write_layout.ensures.0 ∙ A.0, c.write_layout.ensures.1 ∙ A.1)
