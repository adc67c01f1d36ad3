-- Packing and unpacking lead back: what is packed is unpacked again, and what is unpacked is packed again, but for the pad.
-- Assumes nothing.
use mathlib.Core.Path.{◌≡◌, refl, sym, ap, ap₂, subst, ◌∙◌}
use mathlib.Core.Bool.{Bool, true, false, cond}
use mathlib.Core.List.{List, [], ◌∷◌, ◌++◌, append_assoc}
use mathlib.Core.Option.{none}
use Prim.Native.Nat.{ℕ, zero, suc, ◌+◌, ◌*◌, ◌/◌, ◌^◌, ◌≤◌, ◌<◌}
use native.Mathlib.Omega.{arith}
use borrow.Author.Tests.{eq-eqb}
use lib.Dec.{eqb, lit<, eqb→eq}
use lib.ListN.{length, get_or, take, drop, replicate, length-drop, take-append-drop}
use lib.Seq.{take_all, take_at, drop_at, take-append-add, length-take-le, take-add}
use Rattle.anc.specs.Word.{bit}
use Rattle.basics.specs.Each.{same}
use Rattle.basics.proofs.Laws.Parts.{skip, last_one}
use Rattle.basics.proofs.Laws.Test.{below_at as passes_at}
use Rattle.anc.specs.Words.{has_flag, narrow, flag}
use Rattle.std.specs.Prelude.{Ok}
use Rattle.b40.specs.Field.{bits, bits_each, number_of, numbers, field_bits, field_of, bits_of, part, yc_of, line_of, offset_of, words_of, is_place}
use Rattle.b40.specs.Packing.{pack_refusal, packed_of, pack_leaves}
use Rattle.b40.specs.Unpacking.{unpack_refusal, head_of, unpacked_of, unpack_leaves}
use Rattle.b40.proofs.Laws.Bits.{bits-length, each-length}
use Rattle.b40.proofs.Laws.Back.{bits_below, each_below, number-bits, run-back, run-lt, each_append, each-one, each-numbers, numbers-each, numbers-back, numbers-below}
use Rattle.basics.proofs.Laws.Below.{append-below, entry-below, replicate-below, drop-below, take_below}
use Rattle.basics.specs.Below.{Below, Bytes}
use Rattle.b40.proofs.Laws.Packing.{accepts}
use Rattle.b40.proofs.Laws.Unpacking.{holds}
use Rattle.b40.proofs.Laws.Places.{place-lt, yc-lt, front, past-line, past-offset, packed-parts, packed-bits, packed-length, field-bits, held-length}
use Rattle.anc.proofs.Laws.Words.{narrow_below, below-narrow}

-- ---- what is packed is unpacked

bit-back : (yc : Bool) → eqb (cond yc 1 0 * 1 + 0) 1 ≡ yc
bit-back true = refl
bit-back false = refl

front_below : (yc : Bool) → Below 2 (front yc)
front_below yc = append-below 2 (replicate 6 0) (cond yc 1 0 ∷ []) (replicate-below 2 6 0 (lit< tt)) (yc-lt yc, tt)

module _ (yc : Bool) (line offset : ℕ) (words : List ℕ) (n : length words ≡ 262) where
  abbrev F : List ℕ
  F = field_bits yc line offset words

  abbrev field' : List ℕ
  field' = field_of yc line offset words

  packed-below : Below 2 F
  packed-below =
      let c = append-below 2 (bits_each 10 (drop 3 words)) (replicate 4 1) (each_below 10 (drop 3 words)) (replicate-below 2 4 1 (lit< tt)) in
      let d = append-below 2 (bits 12 offset) (past-offset words) (bits_below 12 offset) c in
      let e = append-below 2 (bits 11 line) (past-line offset words) (bits_below 11 line) d in
      subst (Below 2) (sym (packed-parts yc line offset words)) (append-below 2 (front yc) (bits 11 line ++ past-line offset words) (front_below yc) e)

  -- the bits of the bytes are the bits that were packed
  bits_back : bits_of field' ≡ F
  unfolding bits_of field_of
  bits_back =
      let m = packed-bits yc line offset words n in
      each-numbers 328 8 F packed-below (omega arith) ∙ take_all 2624 F (omega arith)

  parts-back : bits_of field' ≡ front yc ++ (bits 11 line ++ past-line offset words)
  parts-back = bits_back ∙ packed-parts yc line offset words

  zeros-back : part field' 0 6 ≡ 0
  unfolding part number_of
  zeros-back = ap (λ (l : List ℕ). number_of (take 6 l)) parts-back

  yc-back : yc_of field' ≡ yc
  unfolding yc_of part number_of
  yc-back = ap (λ (l : List ℕ). eqb (number_of (take 1 (drop 6 l))) 1) parts-back ∙ bit-back yc

  line-back : line < 2048 → line_of field' ≡ line
  unfolding line_of part
  line-back h =
      ap (λ (l : List ℕ). number_of (take 11 (drop 7 l))) parts-back
      ∙ ap number_of (take_at (bits 11 line) (past-line offset words) 11 (bits-length 11 line)) ∙ number-bits 11 line h

  offset-back : offset < 4096 → offset_of field' ≡ offset
  unfolding offset_of part
  offset-back h =
      ap (λ (l : List ℕ). number_of (take 12 (drop 18 l))) parts-back
      ∙ ap (λ (l : List ℕ). number_of (take 12 l)) (drop_at (bits 11 line) (past-line offset words) 11 (bits-length 11 line))
      ∙ ap number_of (take_at (bits 12 offset) (past-offset words) 12 (bits-length 12 offset)) ∙ number-bits 12 offset h

  words_back : narrow words ≡ true → take 3 words ≡ flag → words_of field' ≡ words
  unfolding words_of
  words_back w f =
      let d : List ℕ = drop 3 words in
      let m : length d ≡ 259 = omega (arith, length-drop 3 words) in
      let rest : drop 30 (bits_of field') ≡ past-offset words =
      ap (drop 30) parts-back ∙ skip (bits 11 line) (past-line offset words) 11 12 (bits-length 11 line)
      ∙ drop_at (bits 12 offset) (past-offset words) 12 (bits-length 12 offset) in
      let same-words : numbers 259 10 (past-offset words) ≡ d =
      numbers-back 259 10 d (replicate 4 1) m (drop-below 1024 3 words (narrow_below words w)) in
      ap (λ (l : List ℕ). flag ++ numbers 259 10 l) rest ∙ ap (λ (l : List ℕ). flag ++ l) same-words
      ∙ ap (λ (l : List ℕ). l ++ d) (sym f) ∙ take-append-drop 3 words

  module _ (p : is_place line offset ≡ true) where
    head-back : head_of field' ≡ record { yc = yc; line = line; offset = offset }
    unfolding head_of
    head-back =
        let h = place-lt line offset p in
        λ i. record { yc = yc-back i; line = line-back h.0 i; offset = offset-back h.1 i }

    packed-accepted : (room : ℕ) → room ≡ 262 → unpack_refusal field' room ≡ none
    unfolding unpack_refusal
    packed-accepted room m =
        let h = place-lt line offset p in
        let q : is_place (line_of field') (offset_of field') ≡ true = ap₂ is_place (line-back h.0) (offset-back h.1) ∙ p in
        simp (eq-eqb (length field') 328 (packed-length yc line offset words), eq-eqb (part field' 0 6) 0 zeros-back, q, eq-eqb room 262 m)

-- where packing is not refused, unpacking what it leaves gives back Y/C, line, offset and the 262 words
pub unpack-pack : (yc : Bool) (line offset : ℕ) (words old room : List ℕ) → pack_refusal line offset words (length old) ≡ none → length room ≡ 262
    → (unpacked_of (pack_leaves yc line offset words old) (length room) ≡ Ok (record { yc = yc; line = line; offset = offset }))
    × (unpack_leaves (pack_leaves yc line offset words old) room ≡ words)
unfolding pack_leaves unpacked_of unpack_leaves head_of
unpack-pack yc line offset words old room ok m =
    let a = accepts line offset words (length old) ok in
    let open' = packed-accepted yc line offset words a.long a.place (length room) m in
    rw (ok, open') (ap Ok (head-back yc line offset words a.long a.place), words_back yc line offset words a.long a.tens a.flagged)

-- ---- what is unpacked is packed

one_bit : (x : ℕ) → x < 2 → cond (eqb x 1) 1 0 ∷ [] ≡ bits 1 x
unfolding bits bit
one_bit zero h = refl
one_bit (suc zero) h = refl
one_bit (suc (suc x)) h = absurd (omega arith)

-- the upper half of a byte, and the pad
last_byte : (z : ℕ) → z < 256 → number_of (take 8 (take 4 (bits 8 z) ++ replicate 4 1)) ≡ z / 16 * 16 + 15
unfolding number_of bits bit
last_byte z h =
    eqb→eq _ _ (passes_at (λ y. eqb (number_of (take 8 (take 4 (bits 8 y) ++ replicate 4 1))) (y / 16 * 16 + 15)) 256 tt z h)

-- a field with ones in the low four bits of its last byte
abbrev pub padded : List ℕ → List ℕ
padded field = take 327 field ++ (get_or field 327 0 / 16 * 16 + 15) ∷ []

held-flag : (field : List ℕ) → has_flag (words_of field) ≡ true
unfolding words_of flag has_flag same
held-flag field = refl

module _ (field : List ℕ) (b : Bytes field) (n : length field ≡ 328) (z : part field 0 6 ≡ 0) where
  abbrev B : List ℕ
  B = bits_of field

  long : length B ≡ 2624
  long = field-bits field n

  zeros-or-ones : Below 2 B
  unfolding bits_of
  zeros-or-ones = each_below 8 field

  -- a run of bits is that of the number which it spells
  run : (s k : ℕ) → s + k ≤ 2624 → bits k (part field s k) ≡ take k (drop s B)
  unfolding part
  run s k h = run-back k (drop s B) (drop-below 2 s B zeros-or-ones) (omega (arith, long, length-drop s B))

  run_small : (s k : ℕ) → s + k ≤ 2624 → part field s k < 2 ^ k
  unfolding part
  run_small s k h = run-lt k (drop s B) (drop-below 2 s B zeros-or-ones) (omega (arith, long, length-drop s B))

  -- the words that it holds are ten bits each, behind a flag
  held-narrow : narrow (words_of field) ≡ true
  unfolding words_of flag
  held-narrow =
      below-narrow (words_of field)
      (lit< tt, (lit< tt, (lit< tt, numbers-below 259 10 (drop 30 B) (drop-below 2 30 B zeros-or-ones) (omega (arith, long, length-drop 30 B)))))

  front_same : front (yc_of field) ≡ take 7 B
  unfolding yc_of bits bit
  front_same =
      let six : replicate 6 0 ≡ take 6 B = ap (bits 6) (sym z) ∙ run 0 6 (omega arith) in
      let y : part field 6 1 < 2 = run_small 6 1 (omega arith) in
      ap₂ (λ (x w : List ℕ). x ++ w) six (one_bit (part field 6 1) y ∙ run 6 1 (omega arith)) ∙ sym (take-add 6 1 B)

  packed-again : field_bits (yc_of field) (line_of field) (offset_of field) (words_of field) ≡ take 2620 B ++ replicate 4 1
  unfolding field_bits line_of offset_of words_of flag
  packed-again =
      let r30 : bits_each 10 (numbers 259 10 (drop 30 B)) ≡ take 2590 (drop 30 B) =
      each-numbers 259 10 (drop 30 B) (drop-below 2 30 B zeros-or-ones) (omega (arith, long, length-drop 30 B)) in
      let e18 : front (yc_of field) ++ bits 11 (part field 7 11) ≡ take 18 B = ap₂ (λ (x w : List ℕ). x ++ w) front_same (run 7 11 (omega arith)) ∙ sym (take-add 7 11 B) in
      let e30 = ap₂ (λ (x w : List ℕ). x ++ w) e18 (run 18 12 (omega arith)) ∙ sym (take-add 18 12 B) in
      ap (λ (l : List ℕ). l ++ replicate 4 1) (ap₂ (λ (x w : List ℕ). x ++ w) e30 r30 ∙ sym (take-add 30 2590 B))

  -- all bytes but the last, and the upper half of that
  first-bits : take 2620 B ≡ bits_each 8 (take 327 field) ++ take 4 (bits 8 (get_or field 327 0))
  unfolding bits_of
  first-bits =
      let x : List ℕ = take 327 field in
      let m : length (bits_each 8 x) ≡ 2616 = omega (arith, each-length 8 x, length-take-le 327 field (omega arith)) in
      let e : field ≡ x ++ get_or field 327 0 ∷ [] = sym (take-append-drop 327 field) ∙ ap (λ (l : List ℕ). x ++ l) (last_one field 327 n) in
      let k : 2620 ≡ length (bits_each 8 x) + 4 = omega arith in
      let whole : B ≡ bits_each 8 x ++ bits_each 8 (get_or field 327 0 ∷ []) = ap (bits_each 8) e ∙ each_append 8 x (get_or field 327 0 ∷ []) in
      ap₂ take k whole ∙ take-append-add (bits_each 8 x) (bits_each 8 (get_or field 327 0 ∷ [])) 4 ∙ ap (λ (l : List ℕ). bits_each 8 x ++ take 4 l) (each-one 8 (get_or field 327 0))

  padded-again : field_of (yc_of field) (line_of field) (offset_of field) (words_of field) ≡ padded field
  unfolding field_of numbers
  padded-again =
      let x : List ℕ = take 327 field in
      let y : List ℕ = take 4 (bits 8 (get_or field 327 0)) in
      let m : length x ≡ 327 = length-take-le 327 field (omega arith) in
      let k : 328 ≡ length x + 1 = omega arith in
      ap₂ (λ (j : ℕ) (l : List ℕ). numbers j 8 l) k (packed-again ∙ ap (λ (l : List ℕ). l ++ replicate 4 1) first-bits ∙ append_assoc (bits_each 8 x) y (replicate 4 1))
      ∙ numbers-each 1 8 x (y ++ replicate 4 1) (take_below 256 327 field b)
      ∙ ap (λ (v : ℕ). x ++ v ∷ []) (last_byte (get_or field 327 0) (entry-below 256 field (lit< tt) b 327))

  again-accepted : is_place (line_of field) (offset_of field) ≡ true → (room : ℕ) → room ≡ 328
      → pack_refusal (line_of field) (offset_of field) (words_of field) room ≡ none
  unfolding pack_refusal
  again-accepted p room m = simp (eq-eqb (length (words_of field)) 262 (held-length field), held-narrow, held-flag field, p, eq-eqb room 328 m)

-- where unpacking is not refused, packing what it gives makes the same bytes, but for the pad, which becomes ones
pub pack-unpack : (field room old : List ℕ) → Bytes field → unpack_refusal field (length room) ≡ none → length old ≡ 328
    → (packed_of (head_of field).line (head_of field).offset (unpack_leaves field room) (length old) ≡ Ok tt)
    × (pack_leaves (head_of field).yc (head_of field).line (head_of field).offset (unpack_leaves field room) old ≡ padded field)
unfolding packed_of pack_leaves unpack_leaves head_of
pack-unpack field room old b ok m =
    let h = holds field (length room) ok in
    let again = again-accepted field b h.long h.zeros h.place (length old) m in
    rw (ok, again) (refl, padded-again field b h.long h.zeros)
