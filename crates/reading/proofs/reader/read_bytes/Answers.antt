-- `reading::reader::read_bytes` meets its contract: with correction on the repair decides, else the two checks that follow one another.
-- Assumes nothing.
use mathlib.Core.Path.{sym, ap, ◌∙◌}
use mathlib.Core.List.{List}
use Prim.Native.Nat.{ℕ}
use native.Mathlib.Omega.{arith}
use Rattle.std.specs.Prelude.{is_ok}
use Rattle.basics.specs.Each.{all}
use Rattle.basics.proofs.Laws.Parts.{take-most}
use Rattle.anc.proofs.Laws.Words.{low-filled, low-done}
use Rattle.soundness.proofs.Laws.Run.{words-few}
use Rattle.refusal.specs.Checked.{checked_of}
use Rattle.refusal.proofs.Laws.Chain.{chained-none, handed-on, went-past, stopped-at, last-check}
use Rattle.search.specs.Marked.{marked_refusal, marked_leaves}
use Rattle.reading.specs.Reading.{is_fill, data_words}
use Rattle.reading.proofs.Laws.Reader.{repair-decides, guarded-off, bytes_on, bytes-off, last-six}
use Rattle.reading.proofs.reader.read_bytes.Goals as goal

pub unwrap-requires : goal.unwrap-requires
unwrap-requires c = ap is_ok (low-done c.args.words.now _ c.low_bytes.ensures.0 (c.requires.0 ∙ sym c.requires.1))

pub returns-then-correction : goal.returns-then-correction
returns-then-correction c =
    let ws : List ℕ = c.args.words.now in
    let low = low-filled _ ws _ c.low_bytes.ensures.1 (c.requires.0 ∙ sym c.requires.1) in (
      c.repair_marked.ensures.0 ∙ ap checked_of (ap (marked_refusal ws) low ∙ repair-decides _ ws c.if-correction.true c.requires.0),
      c.repair_marked.ensures.1 ∙ ap (marked_leaves ws) low ∙ bytes_on _ ws c.if-correction.true c.requires.0,
    )

pub returns-in_err-check_words : goal.returns-in_err-check_words
returns-in_err-check_words c =
    let ws : List ℕ = c.args.words.now in
    let low = low-filled _ ws _ c.low_bytes.ensures.1 (c.requires.0 ∙ sym c.requires.1) in
    let few = c.check_words.ensures ∙ ap checked_of (words-few (data_words ws) (omega (arith, take-most 248 ws))) in
    (handed-on _ c.from_residual.ensures.1 ∙ stopped-at _ _ chained-none few c.in_err-check_words.was ∙ ap checked_of (sym (guarded-off _ ws c.if-correction.false)), low ∙ bytes-off _ ws c.if-correction.false)

pub returns : goal.returns
returns c =
    let ws : List ℕ = c.args.words.now in
    let low = low-filled _ ws _ c.low_bytes.ensures.1 (c.requires.0 ∙ sym c.requires.1) in
    let few = c.check_words.ensures ∙ ap checked_of (words-few (data_words ws) (omega (arith, take-most 248 ws))) in
    let past = went-past _ chained-none few c.in_ok-check_words.was in
    (last-check past c.require.ensures (c.all_fill.ensures ∙ ap (all is_fill) (last-six ws c.requires.0)) c.plain.ensures ∙ ap checked_of (sym (guarded-off _ ws c.if-correction.false)), low ∙ bytes-off _ ws c.if-correction.false)
