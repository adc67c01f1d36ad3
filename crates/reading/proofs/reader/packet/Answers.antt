-- `reading::reader::packet` meets its contract: words are counted as fixed only with correction on.
-- Assumes nothing.
use mathlib.Core.Path.{sym, ap, ◌∙◌}
use mathlib.Core.List.{List}
use Prim.Native.Nat.{ℕ}
use borrow.Author.Tests.{eq-eqb, ne_eqb}
use Rattle.refusal.proofs.Laws.Chain.{same-ok}
use Rattle.std.proofs.Common.{rules}
use Rattle.std.specs.Prelude.{is_ok}
use Rattle.reading.specs.Reading.{correction_of, protected_of}
use Rattle.reading.proofs.Laws.Again.{length_part}
use Rattle.reading.proofs.Laws.Reader.{count-done, packet-told}
use Rattle.reading.proofs.reader.packet.Goals as goal
use Rattle.reading.proofs.reader.packet.Goals.{then-correction, else-correction}

pub unwrap-fixed-requires : goal.unwrap-fixed-requires
unfolding protected_of
unwrap-fixed-requires c = ap is_ok (c.count_fixed.ensures ∙ count-done (protected_of c.args.words.now) c.args.bytes.now (length_part c.args.words.now (search rules)) (search rules))

pub returns : goal.returns
unfolding correction_of protected_of
returns c =
    let ws : List ℕ = c.args.words.now in
    let bs : List ℕ = c.args.bytes.now in
    packet-told ws bs c.if-correction.fixed
    (elim c.if-correction.branch [
      | then-correction w ↦
          let told = w.count_fixed.ensures ∙ count-done (protected_of ws) bs (length_part ws (search rules)) (search rules) in
          rw (eq-eqb _ _ w.if-correction.true) (w.fixed-is ∙ same-ok (sym w.unwrap-fixed.ensures ∙ told))
      | else-correction w ↦ rw (ne_eqb _ _ w.if-correction.false) w.fixed-is
    ])
