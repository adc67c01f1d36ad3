-- `repair::count_fixed` meets its contract.
-- Assumes nothing.
use mathlib.Core.Path.{◌≡◌, refl, sym, ap, ◌∙◌}
use mathlib.Core.List.{List}
use Prim.Native.Nat.{ℕ, ◌<◌}
use native.Mathlib.Omega.{arith}
use borrow.Author.Tests.{eqb-true}
use lib.ListN.{length, get_or}
use Rattle.std.specs.Prelude.{Ok}
use Rattle.anc.specs.Words.{sound_words}
use Rattle.rs.specs.Decode.{changes}
use Rattle.refusal.specs.Chain.{passed}
use Rattle.refusal.proofs.Laws.Chain.{chained-none, handed-on, went-on, stopped, err-by, check-passed}
use Rattle.repair.specs.Protected.{count_refusal}
use Rattle.repair.specs.Repair.{counted_of}
use Rattle.repair.proofs.Laws.Changes.{changes-alike, changes-apart, changes-all, counted_words}
use Rattle.anc.proofs.Laws.Words.{sound_words-length, sound_words-at}
use Rattle.repair.proofs.count_fixed.Goals as goal
use Rattle.repair.proofs.count_fixed.Goals.{then-words-i, else-words-i}

pub returns-in_err-require : goal.returns-in_err-require
unfolding counted_of count_refusal
returns-in_err-require c =
    let ws = c.args.words.now in
    let bs = c.args.bytes.now in
    let e = stopped _ chained-none c.require.ensures refl c.plain.ensures c.in_err-require.was in
    handed-on _ c.from_residual.ensures.1 ∙ err-by (count_refusal ws bs) (changes ws (sound_words bs)) _ e

pub returns-in_err-require-2 : goal.returns-in_err-require-2
unfolding counted_of count_refusal
returns-in_err-require-2 c =
    let ws = c.args.words.now in
    let bs = c.args.bytes.now in
    let one = went-on chained-none c.require.ensures refl c.plain.ensures c.in_ok-require.was in
    let e = stopped passed one c.require-2.ensures refl c.plain-2.ensures c.in_err-require-2.was in
    handed-on _ c.from_residual-in_err-require-2.ensures.1 ∙ err-by (count_refusal ws bs) (changes ws (sound_words bs)) _ e

pub loop-i-preserved : goal.loop-i-preserved
loop-i-preserved c =
    let l = c.loop-i in
    let ws : List ℕ = c.args.words.now in
    let bs : List ℕ = c.args.bytes.now in
    let n : length ws ≡ 254 = eqb-true (length ws) 254 (check-passed _ _ (sym c.in_ok-require.was ∙ c.require.ensures)) in
    let m : length bs ≡ 254 = eqb-true (length bs) 254 (check-passed _ _ (sym c.in_ok-require-2.was ∙ c.require-2.ensures)) in
    let word : get_or (sound_words bs) l.i 0 ≡ c.word_of.result = sound_words-at bs l.i (omega arith) ∙ sym c.word_of.ensures in
    let there : l.i < length (sound_words bs) = omega (arith, sound_words-length bs) in
    elim c.if-words-i.branch [
      | then-words-i w ↦ (omega arith, omega (arith, changes-apart ws (sound_words bs) l.i (omega arith) there (λ e. w.if-words-i.true (e ∙ word))))
      | else-words-i w ↦ (omega arith, omega (arith, changes-alike ws (sound_words bs) l.i (omega arith) there (w.if-words-i.false ∙ sym word)))
    ]

pub returns : goal.returns
returns c =
    let l = c.loop-i in
    let ws : List ℕ = c.args.words.now in
    let bs : List ℕ = c.args.bytes.now in
    let n : length ws ≡ 254 = eqb-true (length ws) 254 (check-passed _ _ (sym c.in_ok-require.was ∙ c.require.ensures)) in
    let m : length bs ≡ 254 = eqb-true (length bs) 254 (check-passed _ _ (sym c.in_ok-require-2.was ∙ c.require-2.ensures)) in
    ap Ok (l.invariant.1 ∙ changes-all ws (sound_words bs) l.i (omega arith) (omega (arith, sound_words-length bs))) ∙ counted_words ws bs n m
