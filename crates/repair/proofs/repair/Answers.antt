-- `repair::repair` meets its contract: each check that failed is the refusal, and behind them the words are rewritten and counted.
-- Assumes nothing.
use mathlib.Core.Path.{◌≡◌, refl, sym, ap, ◌∙◌}
use mathlib.Core.List.{List}
use Prim.Native.Nat.{ℕ}
use borrow.Author.Tests.{eqb-true}
use lib.ListN.{length}
use Rattle.std.specs.Prelude.{is_ok, Ok, Err, eqb}
use Rattle.refusal.specs.declared.Refusal.{Refusal}
use Rattle.refusal.specs.Chain.{require, passed}
use Rattle.refusal.specs.Checked.{Checked, checked_of}
use Rattle.refusal.proofs.Laws.Chain.{chained-none, handed-on, went-on, stopped, decided, err-by, ok-by, kept-by, left-by, check-passed}
use Rattle.rs.specs.Decode.{changes}
use Rattle.search.specs.Marked.{marked_refusal, marked_leaves}
use Rattle.search.proofs.Laws.Marked.{marked-leaves}
use Rattle.repair.specs.Protected.{repaired, rewritten, fixed_of, repair_refusal}
use Rattle.repair.specs.Repair.{repaired_of, repair_leaves}
use Rattle.anc.specs.Words.{sound_words}
use Rattle.anc.proofs.Laws.Words.{low_bytes-length, low-filled, sound-filled, low-done, sound-done}
use Rattle.repair.proofs.Laws.Changes.{counted_words}
use Rattle.repair.proofs.Laws.Repair.{repaired-length, near-said}
use Rattle.repair.proofs.repair.Goals as goal

-- a check that failed is the answer, and leaves what was there
kept : (words old : List ℕ) (w : Refusal) → Err w ≡ checked_of (repair_refusal words (length old)) → (Err w ≡ repaired_of words (length old)) × (old ≡ repair_leaves words old)
unfolding repaired_of repair_leaves
kept words old w e =
    let o = repair_refusal words (length old) in
    (err-by o (fixed_of words) w e, kept-by o (rewritten words) old w e)

pub returns-in_err-require : goal.returns-in_err-require
unfolding repair_refusal
returns-in_err-require c =
    rw (handed-on _ c.from_residual.ensures.1)
    (kept c.args.words.now c.args.out.now _ (stopped _ chained-none c.require.ensures refl c.plain.ensures c.in_err-require.was))

pub returns-in_err-require-2 : goal.returns-in_err-require-2
unfolding repair_refusal
returns-in_err-require-2 c =
    let size = went-on chained-none c.require.ensures refl c.plain.ensures c.in_ok-require.was in
    rw (handed-on _ c.from_residual-in_err-require-2.ensures.1)
    (kept c.args.words.now c.args.out.now _ (stopped _ size c.require-2.ensures c.narrow.ensures c.plain-2.ensures c.in_err-require-2.was))

-- so many words are asked for
long : (words : List ℕ) (why : Refusal) {a : Checked} → a ≡ checked_of (require (eqb (length words) 254) why passed) → a ≡ Ok tt → length words ≡ 254
long words why e h = eqb-true (length words) 254 (check-passed _ why (sym h ∙ e))

pub unwrap-requires : goal.unwrap-requires
unwrap-requires c =
    let ws = c.args.words.now in
    ap is_ok (low-done ws _ c.low_bytes.ensures.0 (long ws _ c.require.ensures c.in_ok-require.was))

pub returns-in_err-repair_marked : goal.returns-in_err-repair_marked
unfolding repair_refusal
returns-in_err-repair_marked c =
    let ws = c.args.words.now in
    let n = long ws _ c.require.ensures c.in_ok-require.was in
    let low = low-filled _ ws _ c.low_bytes.ensures.1 n in
    let near = near-said ws n (c.repair_marked.ensures.0 ∙ ap (λ (l : List ℕ). checked_of (marked_refusal ws l)) low) in
    let size = went-on chained-none c.require.ensures refl c.plain.ensures c.in_ok-require.was in
    let wide = went-on size c.require-2.ensures c.narrow.ensures c.plain-2.ensures c.in_ok-require-2.was in
    rw (handed-on _ c.from_residual-in_err-repair_marked.ensures.1) (kept ws c.args.out.now _ (stopped _ wide near refl refl c.in_err-repair_marked.was))

pub returns-in_err-require-3 : goal.returns-in_err-require-3
unfolding repair_refusal
returns-in_err-require-3 c =
    let ws = c.args.words.now in
    let n = long ws _ c.require.ensures c.in_ok-require.was in
    let low = low-filled _ ws _ c.low_bytes.ensures.1 n in
    let near = near-said ws n (c.repair_marked.ensures.0 ∙ ap (λ (l : List ℕ). checked_of (marked_refusal ws l)) low) in
    let size = went-on chained-none c.require.ensures refl c.plain.ensures c.in_ok-require.was in
    let wide = went-on size c.require-2.ensures c.narrow.ensures c.plain-2.ensures c.in_ok-require-2.was in
    let beyond = went-on wide near refl refl c.in_ok-repair_marked.was in
    rw (handed-on _ c.from_residual-in_err-require-3.ensures.1) (kept ws c.args.out.now _ (stopped _ beyond c.require-3.ensures refl c.plain-3.ensures c.in_err-require-3.was))

-- what is repaired has as many bytes as there is room for
repaired-long : (words got : List ℕ) → length words ≡ 254 → got ≡ repaired words → length got ≡ 254
repaired-long words got n e = ap length e ∙ repaired-length words ∙ n

pub unwrap-requires-2 : goal.unwrap-requires-2
unfolding repaired
unwrap-requires-2 c =
    let ws = c.args.words.now in
    let n = long ws _ c.require.ensures c.in_ok-require.was in
    let room = long c.args.out.now _ c.require-3.ensures c.in_ok-require-3.was in
    let low = low-filled _ ws _ c.low_bytes.ensures.1 n in
    let same = c.repair_marked.ensures.1 ∙ ap (marked_leaves ws) low ∙ marked-leaves ws _ n (low_bytes-length ws ∙ n) in
    ap is_ok (sound-done _ _ c.sound_words.ensures.0 (repaired-long ws _ n same ∙ sym room))

pub returns : goal.returns
unfolding repaired_of repair_leaves repair_refusal repaired rewritten fixed_of
returns c =
    let ws = c.args.words.now in
    let old = c.args.out.now in
    let n = long ws _ c.require.ensures c.in_ok-require.was in
    let room = long old _ c.require-3.ensures c.in_ok-require-3.was in
    let low = low-filled _ ws _ c.low_bytes.ensures.1 n in
    let near = near-said ws n (c.repair_marked.ensures.0 ∙ ap (λ (l : List ℕ). checked_of (marked_refusal ws l)) low) in
    let size = went-on chained-none c.require.ensures refl c.plain.ensures c.in_ok-require.was in
    let wide = went-on size c.require-2.ensures c.narrow.ensures c.plain-2.ensures c.in_ok-require-2.was in
    let beyond = went-on wide near refl refl c.in_ok-repair_marked.was in
    let all = decided passed (went-on beyond c.require-3.ensures refl c.plain-3.ensures c.in_ok-require-3.was) refl in
    let same = c.repair_marked.ensures.1 ∙ ap (marked_leaves ws) low ∙ marked-leaves ws _ n (low_bytes-length ws ∙ n) in
    let m = repaired-long ws _ n same in
    let o = repair_refusal ws (length old) in (
      c.count_fixed.ensures ∙ sym (counted_words ws _ n m) ∙ ap (λ (bs : List ℕ). Ok (changes ws (sound_words bs))) same ∙ ok-by o (fixed_of ws) all,
      sound-filled _ _ _ c.sound_words.ensures.1 (m ∙ sym room) ∙ ap sound_words same ∙ left-by o (rewritten ws) old all,
    )
