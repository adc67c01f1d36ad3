-- Write after read: an accepted packet is the layout of the bytes that are read, with the protected words as they are read.
-- Assumes nothing.
use mathlib.Core.Path.{◌≡◌, refl, sym, ap, ap₂, ◌∙◌}
use mathlib.Core.Bool.{Bool, true, false}
use mathlib.Core.List.{List, [], ◌∷◌, ◌++◌}
use mathlib.Core.Logic.{⊎_elim}
use mathlib.Core.Option.{none}
use Prim.Native.Nat.{ℕ, zero, suc, ◌+◌, ◌*◌, ◌/◌, ◌%◌, ◌≤◌, ◌<◌}
use native.Mathlib.Omega.{arith}
use borrow.Author.Tests.{eqb-true, eqb-false}
use lib.Dec.{eqb}
use lib.Pow.{field, mod-mod-pow}
use native.Mathlib.Nat.{suc_inj}
use lib.ListN.{length, take, drop, replicate, length-drop, take-append-drop}
use lib.Seq.{length-take-le}
use Rattle.anc.specs.Word.{word_of, is_sound, checksum_of}
use Rattle.anc.proofs.Laws.Word.{sound-is-word}
use Rattle.soundness.proofs.Laws.Run.{passed-sound}
use Rattle.basics.specs.Each.{all}
use Rattle.basics.proofs.Laws.Test.{both_true, lt-or-le}
use Rattle.basics.proofs.Laws.Parts.{part-entries, same-cons, last_one}
use Rattle.refusal.proofs.Laws.Chain.{require-passed, next-passed}
use Rattle.rs.specs.Codeword.{parity_of, Codeword}
use Rattle.record.specs.Record.{content_refusal}
use Rattle.repair.specs.Protected.{repaired, rewritten}
use Rattle.anc.specs.Words.{flag, low_bytes, sound_words, narrow}
use Rattle.writing.specs.Layout.{header_word, protected_words, summed_words, packet_words}
use Rattle.anc.proofs.Laws.Words.{flag-words, low-words}
use Rattle.repair.proofs.Laws.Repair.{repaired-codeword}
use Rattle.writing.proofs.Laws.Layout.{packet-carries, summed-shape, protected-on}
use Rattle.reading.specs.Reading.{word, correction_of, index_of, protected_of, read_words, read_bytes, summed_of, is_fill, head_refusal, protected_refusal, body_refusal, read_refusal, rewritten_packet}

-- ---- what an accepted packet has passed

pub record Accepted (ws : List ℕ) : Type 0 where
  pub long : length ws ≡ 262
  pub slim : narrow ws ≡ true
  pub flagged : take 3 ws ≡ flag
  pub did : word ws 3 ≡ 0x25F
  pub sdid : word ws 4 ≡ 0x1FE
  pub count : word ws 5 ≡ 0x2FF
  pub sound : is_sound (word ws 6) ≡ true
  pub zero_bits : word ws 6 / 16 % 8 ≡ 0
  pub guarded : protected_refusal (correction_of ws) (protected_of ws) ≡ none
  pub sum : checksum_of (summed_of ws) ≡ word ws 261
  pub rules : content_refusal (read_bytes ws) ≡ none

pub accepted-parts : (ws : List ℕ) → read_refusal ws ≡ none → Accepted ws
unfolding read_refusal head_refusal body_refusal
accepted-parts ws e =
    let halves = next-passed _ _ e in
    let a = require-passed _ _ _ halves.0 in
    let b = require-passed _ _ _ a.1 in
    let c = require-passed _ _ _ b.1 in
    let d = require-passed _ _ _ c.1 in
    let f = require-passed _ _ _ d.1 in
    let g = require-passed _ _ _ f.1 in
    let h = next-passed _ _ halves.1 in
    let i = require-passed _ _ _ h.1 in
    let kinds = both_true _ _ d.0 in
    let heads = both_true _ _ g.0 in
    record {
      long = eqb-true _ _ a.0;
      slim = b.0;
      flagged = flag-words ws c.0;
      did = eqb-true _ _ kinds.0;
      sdid = eqb-true _ _ kinds.1;
      count = eqb-true _ _ f.0;
      sound = heads.0;
      zero_bits = eqb-true _ _ heads.1;
      guarded = h.0;
      sum = eqb-true _ _ i.0;
      rules = i.1;
    }

-- ---- the header

-- b6 to b4 zero: b7 and b3 to b0 are the whole byte
low_parts : (w : ℕ) → w / 16 % 8 ≡ 0 → w % 256 ≡ 128 * (w / 128 % 2) + w % 16
low_parts w z = joined (w % 256) (w % 128) (w / 128 % 2) (w % 16) (field w 1 7) (mod-mod-pow w 1 7) (field w 3 4 ∙ z) (mod-mod-pow w 3 4)
  where
    joined : (v m b n : ℕ) → v / 128 ≡ b → v % 128 ≡ m → m / 16 ≡ 0 → m % 16 ≡ n → v ≡ 128 * b + n
    joined v m b n p q r s = omega arith

not-one : (x : ℕ) → (x % 2 ≡ 1 → ⊥) → x % 2 ≡ 0
not-one x n = ⊎_elim (λ (h : x % 2 < 1). omega arith) (λ (h : 1 ≤ x % 2). absurd (n (omega arith))) (lt-or-le (x % 2) 1)

header-again : (w : ℕ) (on : Bool) → is_sound w ≡ true → w / 16 % 8 ≡ 0 → eqb (w / 128 % 2) 1 ≡ on → header_word on (w % 16) ≡ w
unfolding header_word
header-again w true s z e =
    ap word_of (sym (low_parts w z ∙ ap (λ (b : ℕ). 128 * b + w % 16) (eqb-true (w / 128 % 2) 1 e))) ∙ sym (sound-is-word w s)
header-again w false s z e =
    ap word_of (sym (low_parts w z ∙ ap (λ (b : ℕ). 128 * b + w % 16) (not-one (w / 128) (eqb-false (w / 128 % 2) 1 e)))) ∙ sym (sound-is-word w s)

-- ---- the protected words

sound-again : (ws : List ℕ) → all is_sound ws ≡ true → sound_words (low_bytes ws) ≡ ws
unfolding all sound_words low_bytes
sound-again [] s = refl
sound-again (w ∷ ws) s = let b = both_true (is_sound w) (all is_sound ws) s in ap₂ (λ (x : ℕ) (l : List ℕ). x ∷ l) (sym (sound-is-word w b.0)) (sound-again ws b.1)

fill-again : (n : ℕ) (ws : List ℕ) → length ws ≡ n → all is_fill ws ≡ true → ws ≡ replicate n 0x200
unfolding all
fill-again zero [] e f = refl
fill-again zero (w ∷ ws) e f = absurd (omega arith)
fill-again (suc n) [] e f = absurd (omega arith)
fill-again (suc n) (w ∷ ws) e f = let b = both_true (is_fill w) (all is_fill ws) f in ap₂ (λ (x : ℕ) (l : List ℕ). x ∷ l) (eqb-true w 0x200 b.0) (fill-again n ws (suc_inj e) b.1)

take-low : (n : ℕ) (ws : List ℕ) → take n (low_bytes ws) ≡ low_bytes (take n ws)
unfolding low_bytes
take-low zero ws = refl
take-low (suc n) [] = refl
take-low (suc n) (w ∷ ws) = ap (λ (l : List ℕ). w % 256 ∷ l) (take-low n ws)

off-again : (q : List ℕ) → length q ≡ 254 → all is_sound (take 248 q) ≡ true → all is_fill (drop 248 q) ≡ true → protected_words false (take 248 (low_bytes q)) ≡ q
unfolding protected_words
off-again q n s f =
    ap₂ ◌++◌ (ap sound_words (take-low 248 q) ∙ sound-again (take 248 q) s) (sym (fill-again 6 (drop 248 q) (length-drop 248 q ∙ omega arith) f))
    ∙ take-append-drop 248 q

on-again : (c : List ℕ) → Codeword c → protected_words true (take 248 (low_bytes (sound_words c))) ≡ sound_words c
on-again c C =
    protected-on _
    ∙ ap sound_words
    (ap (λ (l : List ℕ). take 248 l ++ parity_of (take 248 l)) (low-words c C.bytes) ∙ ap (λ (l : List ℕ). take 248 c ++ l) (sym C.parity) ∙ take-append-drop 248 c)

-- ---- the packet again

pub length_part : (ws : List ℕ) → length ws ≡ 262 → length (protected_of ws) ≡ 254
unfolding protected_of
length_part ws n = length-take-le 254 (drop 7 ws) (omega (arith, length-drop 7 ws))

-- the protected words as they are read are those of the bytes that are read
protected-again : (ws : List ℕ) → Accepted ws → (on : Bool) → correction_of ws ≡ on → protected_words on (read_bytes ws) ≡ read_words ws
unfolding protected_refusal read_bytes read_words rewritten
protected-again ws A true e =
    let p = require-passed _ _ _ (rw e at A.guarded) in
    rw e (on-again (repaired (protected_of ws)) (repaired-codeword (protected_of ws) p.0))
protected-again ws A false e =
    let p = next-passed _ _ (rw e at A.guarded) in
    let q = require-passed _ _ _ p.1 in
    rw e (off-again (protected_of ws) (length_part ws A.long) (passed-sound 1 (take 248 (protected_of ws)) p.0) q.0)

-- an accepted packet's rewritten words are the layout of the bytes that are read
pub again : (ws : List ℕ) → read_refusal ws ≡ none → packet_words (correction_of ws) (index_of ws) (read_bytes ws) ≡ rewritten_packet ws
unfolding correction_of index_of summed_of flag rewritten_packet
again ws e =
    let A = accepted-parts ws e in
    let on : Bool = correction_of ws in
    let r : List ℕ = read_bytes ws in
    let h : header_word on (index_of ws) ≡ word ws 6 = header-again (word ws 6) on A.sound A.zero_bits refl in
    let p : protected_words on r ≡ read_words ws = protected-again ws A on refl in
    let n : 7 ≤ length ws = omega (arith, A.long) in
    let front : flag ≡ word ws 0 ∷ word ws 1 ∷ word ws 2 ∷ [] = sym A.flagged ∙ part-entries 3 0 ws (omega arith) in
    let from-did : (l m : List ℕ) → l ≡ m → 0x25F ∷ 0x1FE ∷ 0x2FF ∷ header_word on (index_of ws) ∷ l ≡ word ws 3 ∷ word ws 4 ∷ word ws 5 ∷ word ws 6 ∷ m =
    λ l m t. same-cons (sym A.did) (same-cons (sym A.sdid) (same-cons (sym A.count) (same-cons h t))) in
    let s : summed_words on (index_of ws) r ≡ summed_of ws =
    summed-shape on (index_of ws) r ∙ from-did _ _ p ∙ ap (λ (l : List ℕ). l ++ read_words ws) (sym (part-entries 4 3 ws n)) in
    packet-carries on (index_of ws) r
    ∙ ap₂ (λ (x y : List ℕ). x ++ y) front (from-did _ _ (ap₂ (λ (l : List ℕ) (c : ℕ). l ++ c ∷ []) p (ap checksum_of s ∙ A.sum)))
    ∙ ap₂ (λ (l m : List ℕ). l ++ read_words ws ++ m) (sym (part-entries 7 0 ws n)) (sym (last_one ws 261 A.long))
