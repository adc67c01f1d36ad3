-- What is packed into a field, and what stands in it, as the code writes and reads them.
-- Assumes nothing.
use mathlib.Core.Path.{◌≡◌, refl, sym, ap, ap₂, subst, ◌∙◌}
use mathlib.Core.Bool.{Bool, true, false, cond, ◌&&◌, false≢true}
use mathlib.Core.List.{List, [], ◌∷◌, ◌++◌, append_assoc}
use Prim.Native.Nat.{ℕ, ◌+◌, ◌*◌, ◌/◌, ◌%◌, ◌^◌, ◌≤◌, ◌<◌}
use native.Mathlib.Nat.{mod-lt}
use native.Mathlib.Omega.{arith}
use borrow.Author.Tests.{leb-true}
use lib.Dec.{leb, lit<}
use lib.ListN.{length, get_or, set, take, drop, replicate, length-append, length-drop}
use lib.Seq.{drop-drop, drop-append-le}
use Rattle.anc.specs.Word.{bit}
use Rattle.basics.proofs.Laws.Parts.{entries, part-entries}
use Rattle.basics.proofs.Laws.Test.{both_true, never}
use Rattle.anc.specs.Words.{narrow, flag}
use Rattle.anc.proofs.Laws.Words.{narrow_below, below-narrow}
use Rattle.b40.specs.Field.{bits, bits_each, number_of, numbers, field_bits, field_of, bits_of, part, words_of, is_place}
use Rattle.b40.proofs.Laws.Bits.{bits-length, each-length, numbers-length, bits-split, numbers-front}
use Rattle.b40.proofs.Laws.Back.{bits-low, bits-join, each_append, each-one, each_below, run-lt}
use Rattle.basics.proofs.Laws.Below.{append-below, drop-below}
use Rattle.basics.specs.Below.{Below}
use Rattle.b40.proofs.Laws.Window.{within, together, front-number}

-- ---- lines, offsets and Y/C

-- a line has 11 bits, an offset 12
pub place-lt : (line offset : ℕ) → is_place line offset ≡ true → (line < 2048) × (offset < 4096)
unfolding is_place
place-lt line offset e =
    let outer = both_true (leb 1 line && leb line 1125) (leb offset 2199) e in
    let inner = both_true (leb 1 line) (leb line 1125) outer.0 in
    let a : line ≤ 1125 = leb-true line 1125 inner.1 in
    let b : offset ≤ 2199 = leb-true offset 2199 outer.1 in
    (omega arith, omega arith)

pub yc-lt : (yc : Bool) → cond yc 1 0 < 2
yc-lt true = lit< tt
yc-lt false = lit< tt

-- ---- the bits that are packed

-- the first seven
abbrev pub front : Bool → List ℕ
front yc = replicate 6 0 ++ cond yc 1 0 ∷ []

-- those behind the offset, and behind the line
abbrev pub past-offset : List ℕ → List ℕ
past-offset words = bits_each 10 (drop 3 words) ++ replicate 4 1

abbrev pub past-line : ℕ → List ℕ → List ℕ
past-line offset words = bits 12 offset ++ past-offset words

module _ (yc : Bool) (line offset : ℕ) (words : List ℕ) where
  abbrev F : List ℕ
  F = field_bits yc line offset words

  -- the parts, one behind the other
  pub packed-parts : F ≡ front yc ++ (bits 11 line ++ past-line offset words)
  unfolding field_bits
  packed-parts =
      ap (λ (l : List ℕ). replicate 6 0 ++ cond yc 1 0 ∷ l)
      (append_assoc (bits 11 line ++ bits 12 offset) (bits_each 10 (drop 3 words)) (replicate 4 1) ∙ append_assoc (bits 11 line) (bits 12 offset) (past-offset words))

  pub packed-bits : length words ≡ 262 → length F ≡ 2624
  packed-bits n =
      let a = length-append (front yc) (bits 11 line ++ past-line offset words) in
      let b = length-append (bits 11 line) (past-line offset words) in
      let d = length-append (bits 12 offset) (past-offset words) in
      let e = length-append (bits_each 10 (drop 3 words)) (replicate 4 1) in
      let w = each-length 10 (drop 3 words) in
      ap length packed-parts ∙ omega (arith, a, b, d, e, w, length-drop 3 words, bits-length 11 line, bits-length 12 offset)

  pub packed-length : length (field_of yc line offset words) ≡ 328
  unfolding field_of
  packed-length = numbers-length 328 8 F

-- ---- entries that are written over the first three

pub three-over : (l : List ℕ) (a b d : ℕ) → 3 ≤ length l → set (set (set l 0 a) 1 b) 2 d ≡ a ∷ b ∷ d ∷ drop 3 l
three-over [] a b d h = absurd (omega arith)
three-over (x ∷ []) a b d h = absurd (omega arith)
three-over (x ∷ y ∷ []) a b d h = absurd (omega arith)
three-over (x ∷ y ∷ z ∷ l) a b d h = refl

-- ---- the same bits as words of ten

-- what stands before the words, as one number
abbrev pub head_number : Bool → ℕ → ℕ → ℕ
head_number yc line offset = cond yc 1 0 * 8388608 + (line * 4096 + offset)

-- Y/C is its highest bit
pub with-yc : (yc : Bool) (rest : ℕ) → yc ≡ true → rest + 8388608 ≡ cond yc 1 0 * 8388608 + rest
with-yc true rest e = omega arith
with-yc false rest e = absurd (false≢true e)

pub without-yc : (yc : Bool) (rest : ℕ) → yc ≡ false → rest ≡ cond yc 1 0 * 8388608 + rest
without-yc true rest e = never e
without-yc false rest e = omega arith

pub head-lt : (yc : Bool) (line offset : ℕ) → is_place line offset ≡ true → head_number yc line offset < 1073741824
head-lt yc line offset p =
    let lt = place-lt line offset p in
    let y = yc-lt yc in
    omega arith

-- its 30 bits in three words, the words behind the flag, and one whose upper four bits are the pad
abbrev pub tens : ℕ → List ℕ → List ℕ
tens head words = head / 1048576 ∷ head / 1024 % 1024 ∷ head % 1024 ∷ (drop 3 words ++ 0x3C0 ∷ [])

-- as the code makes them: what stands before the words is written over the flag
pub tens-built : (head : ℕ) (words all' : List ℕ) → 3 ≤ length words → all' ≡ words ++ 0x3C0 ∷ []
    → set (set (set all' 0 (head / 1048576)) 1 (head / 1024 % 1024)) 2 (head % 1024) ≡ tens head words
tens-built head words all' h e =
    let a : ℕ = head / 1048576 in
    let b : ℕ = head / 1024 % 1024 in
    let d : ℕ = head % 1024 in
    ap (λ (l : List ℕ). set (set (set l 0 a) 1 b) 2 d) e ∙ three-over (words ++ 0x3C0 ∷ []) a b d (omega (arith, length-append words (0x3C0 ∷ [])))
    ∙ ap (λ (l : List ℕ). a ∷ b ∷ d ∷ l) (drop-append-le 3 words (0x3C0 ∷ []) h)

-- ---- these are the bits that are packed

three-tens : (head : ℕ) → bits 10 (head / 1048576) ++ (bits 10 (head / 1024 % 1024) ++ bits 10 (head % 1024)) ≡ bits 30 head
three-tens head =
    ap (λ (l : List ℕ). bits 10 (head / 1048576) ++ l)
    (ap₂ (λ (l r : List ℕ). l ++ r) (bits-low 10 (head / 1024)) (bits-low 10 head) ∙ sym (bits-split 10 10 head)) ∙ sym (bits-split 10 20 head)

front-seven : (yc : Bool) → front yc ≡ bits 7 (cond yc 1 0)
unfolding bits bit
front-seven true = refl
front-seven false = refl

pad-word : bits 10 0x3C0 ≡ replicate 4 1 ++ replicate 6 0
unfolding bits bit
pad-word = refl

pad-behind : (l : List ℕ) → bits_each 10 (l ++ 0x3C0 ∷ []) ≡ (bits_each 10 l ++ replicate 4 1) ++ replicate 6 0
pad-behind l =
    each_append 10 l (0x3C0 ∷ []) ∙ ap (λ (r : List ℕ). bits_each 10 l ++ r) (each-one 10 0x3C0 ∙ pad-word)
    ∙ sym (append_assoc (bits_each 10 l) (replicate 4 1) (replicate 6 0))

regroup : (x y z u v w r s : List ℕ) → x ++ (y ++ z) ≡ u ++ (v ++ w) → x ++ (y ++ (z ++ (r ++ s))) ≡ (u ++ (v ++ (w ++ r))) ++ s
regroup x y z u v w r s e =
    let a : (x ++ (y ++ z)) ++ (r ++ s) ≡ x ++ (y ++ (z ++ (r ++ s))) = simp append_assoc in
    let b : (u ++ (v ++ w)) ++ (r ++ s) ≡ (u ++ (v ++ (w ++ r))) ++ s = simp append_assoc in
    sym a ∙ ap (λ (l : List ℕ). l ++ (r ++ s)) e ∙ b

module _ (yc : Bool) (line offset : ℕ) (words : List ℕ) (place : is_place line offset ≡ true) where
  abbrev head : ℕ
  head = head_number yc line offset

  head-bits : front yc ++ (bits 11 line ++ bits 12 offset) ≡ bits 30 head
  head-bits =
      let lt = place-lt line offset place in
      ap₂ (λ (l r : List ℕ). l ++ r) (front-seven yc) (bits-join 11 12 line offset lt.1)
      ∙ bits-join 7 23 (cond yc 1 0) (line * 4096 + offset) (omega (arith, lt.0, lt.1))

  -- however many words there are
  pub tens-bits : bits_each 10 (tens head words) ≡ field_bits yc line offset words ++ replicate 6 0
  unfolding bits_each
  tens-bits =
      let behind = pad-behind (drop 3 words) in
      ap (λ (l : List ℕ). bits 10 (head / 1048576) ++ (bits 10 (head / 1024 % 1024) ++ (bits 10 (head % 1024) ++ l))) behind
      ∙ regroup (bits 10 (head / 1048576)) (bits 10 (head / 1024 % 1024)) (bits 10 (head % 1024)) (front yc) (bits 11 line) (bits 12 offset)
      (past-offset words) (replicate 6 0) (three-tens head ∙ sym head-bits)
      ∙ ap (λ (l : List ℕ). l ++ replicate 6 0) (sym (packed-parts yc line offset words))

  -- the field is those words, eight bits a byte
  pub field-tens : length words ≡ 262 → field_of yc line offset words ≡ numbers 328 8 (bits_each 10 (tens head words))
  unfolding field_of
  field-tens n =
      let F : List ℕ = field_bits yc line offset words in
      sym (ap (numbers 328 8) tens-bits ∙ numbers-front 328 8 F (replicate 6 0) (omega (arith, packed-bits yc line offset words n)))

  pub tens-narrow : narrow words ≡ true → narrow (tens head words) ≡ true
  tens-narrow w =
      let first : head / 1048576 < 1024 = omega (arith, head-lt yc line offset place) in
      below-narrow (tens head words)
      (first, (mod-lt _ (lit< tt), (mod-lt _ (lit< tt), append-below 1024 (drop 3 words) (0x3C0 ∷ []) (drop-below 1024 3 words (narrow_below words w)) (lit< tt, tt))))

-- ---- what a field holds

pub field-bits : (field : List ℕ) → length field ≡ 328 → length (bits_of field) ≡ 2624
unfolding bits_of
field-bits field n = omega (arith, each-length 8 field)

-- the first 32 bits are four bytes
pub first-bytes : (field : List ℕ) → Below 256 field → 4 ≤ length field
    → get_or field 0 0 * 16777216 + get_or field 1 0 * 65536 + get_or field 2 0 * 256 + get_or field 3 0 ≡ part field 0 32
unfolding part bits_of
first-bytes field p h =
    let e : part field 0 32 ≡ together 8 (entries 4 0 field) = front-number 8 4 field p ∙ ap (together 8) (part-entries 4 0 field h) in
    omega arith

pub first-lt : (field : List ℕ) (first : ℕ) → 4 ≤ length field → first ≡ part field 0 32 → first < 2 ^ 32
unfolding part bits_of
first-lt field first h e =
    subst (λ (x : ℕ). x < 2 ^ 32) (sym e) (run-lt 32 (bits_each 8 field) (each_below 8 field) (omega (arith, each-length 8 field)))

-- a number that stands within them
pub first_part : (field : List ℕ) → 4 ≤ length field → (o m s : ℕ) → o + m + s ≡ 32 → part field 0 32 / 2 ^ s % 2 ^ m ≡ part field o m
unfolding part bits_of
first_part field h o m s e =
    sym (within (bits_each 8 field) (each_below 8 field) o m s (omega (arith, each-length 8 field))
    ∙ ap (λ (x : ℕ). number_of (take x (bits_each 8 field)) / 2 ^ s % 2 ^ m) e)

-- the flag, and what stands behind it
pub held-length : (field : List ℕ) → length (words_of field) ≡ 262
unfolding words_of flag
held-length field = omega (arith, numbers-length 259 10 (drop 30 (bits_of field)))

pub held-words : (field : List ℕ) → 0x000 ∷ 0x3FF ∷ 0x3FF ∷ drop 3 (numbers 262 10 (bits_of field)) ≡ words_of field
unfolding words_of flag numbers
held-words field =
    let b : List ℕ = bits_of field in
    ap (λ (l : List ℕ). 0x000 ∷ 0x3FF ∷ 0x3FF ∷ numbers 259 10 l) (drop-drop 10 10 (drop 10 b) ∙ drop-drop 20 10 b)
