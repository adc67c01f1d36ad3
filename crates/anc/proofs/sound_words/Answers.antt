-- `anc::sound_words` meets its contract.
-- Assumes nothing.
use Rattle.std.proofs.Common.{◌≡◌, ℕ, List, length, sym, ◌∙◌, arith}
use Rattle.std.proofs.lemmas.Result.{err_from_is_err_and}
use Rattle.basics.proofs.Laws.Parts.{filling-more, filling-all}
use Rattle.anc.specs.Words.{sound_words}
use Rattle.anc.proofs.Laws.Words.{sound_words-length, sound_words-at, has-room, no-room, filled-whole}
use Rattle.anc.proofs.sound_words.Goals as goal

pub returns-in_err-require : goal.returns-in_err-require
returns-in_err-require c =
    let a = c.args in
    let p = err_from_is_err_and c.from_residual.result c.from_residual.ensures.1 in
    let e = c.require.ensures in
    rw (p.1, p.2) (no-room (sound_words a.bytes.now) a.out.now _ (sound_words-length a.bytes.now) (rw c.plain.ensures at e) _ c.in_err-require.was)

pub loop-i-preserved : goal.loop-i-preserved
loop-i-preserved c =
    let l = c.loop-i in
    let xs : List ℕ = c.args.bytes.now in
    let old : List ℕ = c.args.out.now in
    let e = c.require.ensures in
    let long : length (sound_words xs) ≡ length old = has-room (sound_words xs) old _ (sound_words-length xs) (rw c.plain.ensures at e) c.in_ok-require.was in
    let m : length (sound_words xs) ≡ length xs = sound_words-length xs in
    filling-more (sound_words xs) old long l.out l.i _ l.invariant (omega arith) (sound_words-at xs l.i (omega arith) ∙ sym c.word_of.ensures)

pub returns : goal.returns
returns c =
    let l = c.loop-i in
    let xs : List ℕ = c.args.bytes.now in
    let old : List ℕ = c.args.out.now in
    let e = c.require.ensures in
    let long : length (sound_words xs) ≡ length old = has-room (sound_words xs) old _ (sound_words-length xs) (rw c.plain.ensures at e) c.in_ok-require.was in
    let m : length (sound_words xs) ≡ length xs = sound_words-length xs in
    filled-whole (sound_words xs) old long l.out (filling-all (sound_words xs) old long l.out l.i l.invariant (omega arith))
