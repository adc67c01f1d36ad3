-- `b40::field::write_bytes` meets its contract.
-- Assumes nothing.
use mathlib.Core.Path.{◌≡◌, refl, sym, ap, ◌∙◌}
use mathlib.Core.Bool.{cond}
use mathlib.Core.List.{List, [], ◌∷◌, ◌++◌}
use Prim.Native.Nat.{ℕ, ◌+◌, ◌*◌, ◌/◌, ◌%◌}
use native.Mathlib.Omega.{arith}
use lib.ListN.{length, set}
use borrow.Author.Rules.{rules}
use Rattle.anc.specs.Words.{narrow}
use Rattle.b40.specs.Field.{bits_each, numbers}
use Rattle.b40.proofs.Laws.Places.{head_number, with-yc, without-yc, tens, tens-built, tens-narrow, field-tens}
use Rattle.b40.proofs.field.write_bytes.Goals as goal
use Rattle.b40.proofs.field.write_bytes.Goals.{then-yc, else-yc}

-- the words that are handed on
made : (head number : ℕ) (words copied : List ℕ) → length words ≡ 262 → copied ≡ words → head ≡ number
    → set (set (set (copied ++ 0x3C0 ∷ []) 0 (head / 1048576)) 1 (head / 1024 % 1024)) 2 (head % 1024) ≡ tens number words
made head number words copied n e f =
    tens-built head words (copied ++ 0x3C0 ∷ []) (omega arith) (ap (λ (l : List ℕ). l ++ 0x3C0 ∷ []) e) ∙ ap (λ (h : ℕ). tens h words) f

pub fill_bytes-requires : goal.fill_bytes-requires
fill_bytes-requires c =
    let a = c.args in
    let rest : ℕ = c.from.result * 4096 + c.from-2.result in
    let q : rest ≡ a.line * 4096 + a.offset = rw (c.from.ensures, c.from-2.ensures) refl in
    let h : c.if-yc.head ≡ head_number a.yc a.line a.offset =
    elim c.if-yc.branch [ then-yc w ↦ w.head-is ∙ with-yc a.yc rest w.if-yc.true | else-yc w ↦ w.head-is ∙ without-yc a.yc rest w.if-yc.false ]
    ∙ ap (λ (r : ℕ). cond a.yc 1 0 * 8388608 + r) q in
    let e = made _ _ a.words.now _ (search rules) c.copy_from_slice.ensures.after h in
    ap narrow e ∙ tens-narrow a.yc a.line a.offset a.words.now c.requires.1 c.requires.0

pub returns : goal.returns
returns c =
    let a = c.args in
    let rest : ℕ = c.from.result * 4096 + c.from-2.result in
    let q : rest ≡ a.line * 4096 + a.offset = rw (c.from.ensures, c.from-2.ensures) refl in
    let h : c.if-yc.head ≡ head_number a.yc a.line a.offset =
    elim c.if-yc.branch [ then-yc w ↦ w.head-is ∙ with-yc a.yc rest w.if-yc.true | else-yc w ↦ w.head-is ∙ without-yc a.yc rest w.if-yc.false ]
    ∙ ap (λ (r : ℕ). cond a.yc 1 0 * 8388608 + r) q in
    let e = made _ _ a.words.now _ (search rules) c.copy_from_slice.ensures.after h in
    c.fill_bytes.ensures ∙ ap (λ (l : List ℕ). numbers 328 8 (bits_each 10 l)) e ∙ sym (field-tens a.yc a.line a.offset a.words.now c.requires.1 (search rules))
