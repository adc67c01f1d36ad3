-- How many lines are printed of a field that is not refused: fifteen, the last of them item 13's.
-- Assumes nothing.
use mathlib.Core.Path.{◌≡◌, refl, sym, ap, ◌∙◌}
use mathlib.Core.Bool.{Bool, true, false, cond}
use mathlib.Core.List.{List, [], ◌∷◌, ◌++◌, append-nil, append_assoc}
use mathlib.Core.Option.{none}
use Prim.Native.Nat.{ℕ, zero, suc, ◌+◌, ◌/◌, ◌%◌}
use native.Mathlib.Nat.{zero-add}
use native.Mathlib.Omega.{arith}
use lib.Dec.{ltb}
use lib.ListN.{length, take, drop}
use borrow.Author.Tests.{ne_eqb}
use Rattle.items.specs.Items.{items}
use Rattle.record.proofs.Laws.Stored.{private-item}
use Rattle.reading.specs.declared.Packet.{Packet}
use Rattle.reading.specs.Reading.{read_record}
use Rattle.reading.specs.Answer.{packet_of}
use Rattle.b40.specs.declared.Head.{Head}
use Rattle.lines.specs.Text.{digit, leading, decimal, hex_byte, hex_bytes}
use Rattle.lines.specs.Shown.{space, newline, field_word, packet_word, three_line, flag_of, field_line, packet_line, item_line, item_lines, numbers, lines_by, lines_in, private_line}

-- ---- a text in two, and text with no end of a line

lines-append : (a b : List ℕ) → lines_in (a ++ b) ≡ lines_in a + lines_in b
unfolding lines_in
lines-append [] b = sym (zero-add (lines_in b))
lines-append (c ∷ a) b = omega (arith, lines-append a b)

-- one character more that is no end of a line
other-cons : (c : ℕ) (l : List ℕ) → (c ≡ newline → ⊥) → lines_in l ≡ 0 → lines_in (c ∷ l) ≡ 0
unfolding lines_in
other-cons c l f e = rw (ne_eqb c newline f, e)

none_dropped : (k : ℕ) (l : List ℕ) → lines_in l ≡ 0 → lines_in (drop k l) ≡ 0
unfolding lines_in
none_dropped zero l e = e
none_dropped (suc k) [] e = refl
none_dropped (suc k) (c ∷ l) e = none_dropped k l (omega (arith, e))

digit-other : (d : ℕ) → digit d ≡ newline → ⊥
unfolding digit
digit-other d = by (ltb d 10)
  where
    by : (t : Bool) → cond t (48 + d) (55 + d) ≡ newline → ⊥
    by true e = omega (arith, e)
    by false e = omega (arith, e)

decimal-other : (n : ℕ) → lines_in (decimal n) ≡ 0
unfolding decimal
decimal-other n =
    let one : (d : ℕ) (l : List ℕ) → lines_in l ≡ 0 → lines_in (digit d ∷ l) ≡ 0 = λ d l e. other-cons (digit d) l (digit-other d) e in
    none_dropped (leading n) _
    (one (n / 10000 % 10) _ (one (n / 1000 % 10) _ (one (n / 100 % 10) _ (one (n / 10 % 10) _ (one (n % 10) [] (unfold lines_in in refl))))))

hex-other : (bytes : List ℕ) → lines_in (hex_bytes bytes) ≡ 0
unfolding hex_bytes hex_byte
hex-other [] = unfold lines_in in refl
hex-other (b ∷ bytes) =
    other-cons space _ (λ e. omega (arith, e))
    (other-cons _ _ (digit-other (b / 16 % 16)) (other-cons _ _ (digit-other (b % 16)) (hex-other bytes)))

-- ---- one line

three-one : (word : List ℕ) (a b c : ℕ) → lines_in word ≡ 0 → lines_in (three_line word a b c) ≡ 1
unfolding three_line lines_in
three-one word a b c e = simp (lines-append, decimal-other, e)

item-one : (rec : List ℕ) (number : ℕ) → lines_in (item_line rec number) ≡ 1
unfolding item_line lines_in
item-one rec number = simp (lines-append, decimal-other, hex-other)

-- ---- a line for each item

items-lines : (ns rec : List ℕ) → lines_in (item_lines ns rec) ≡ length ns
unfolding item_lines
items-lines [] rec = unfold lines_in in refl
items-lines (n ∷ ns) rec = lines-append (item_line rec n) (item_lines ns rec) ∙ omega (arith, item-one rec n, items-lines ns rec)

items-append : (ns ms rec : List ℕ) → item_lines (ns ++ ms) rec ≡ item_lines ns rec ++ item_lines ms rec
unfolding item_lines
items-append [] ms rec = refl
items-append (n ∷ ns) ms rec = rw (items-append ns ms rec) (sym (append_assoc (item_line rec n) (item_lines ns rec) (item_lines ms rec)))

-- item 13's line: its number and the private area
pub private-line : (rec : List ℕ) → item_line rec 13 ≡ private_line rec
unfolding item_line decimal leading digit private_line
private-line rec = ap (λ (l : List ℕ). (0x31 ∷ 0x33 ∷ []) ++ hex_bytes l ++ (newline ∷ [])) (private-item rec)

table-split : numbers ≡ take 12 numbers ++ (13 ∷ [])
unfolding numbers items
table-split = refl

table-lines : (rec : List ℕ) → item_lines numbers rec ≡ item_lines (take 12 numbers) rec ++ private_line rec
unfolding item_lines
table-lines rec =
    ap (λ (ns : List ℕ). item_lines ns rec) table-split ∙ items-append (take 12 numbers) (13 ∷ []) rec
    ∙ ap (λ (l : List ℕ). item_lines (take 12 numbers) rec ++ l) (append-nil (item_line rec 13) ∙ private-line rec)

-- ---- what is printed of a field that is not refused

module _ (h : Head) (words : List ℕ) where
  -- the lines before the last
  abbrev pub first_lines : List ℕ
  first_lines = field_line h.yc h.line h.offset ++ packet_line (packet_of words) ++ item_lines (take 12 numbers) (read_record words)

  pub last_line : lines_by none h words ≡ first_lines ++ private_line (read_record words)
  last_line =
      let head : List ℕ = field_line h.yc h.line h.offset ++ packet_line (packet_of words) in
      ap (λ (l : List ℕ). head ++ l) (table-lines (read_record words)) ∙ sym (append_assoc head (item_lines (take 12 numbers) (read_record words)) (private_line (read_record words)))

  pub first-lines : lines_in first_lines ≡ 14
  unfolding field_line packet_line field_word packet_word numbers items
  first-lines =
      let p : Packet = packet_of words in
      let a = three-one field_word (flag_of h.yc) h.line h.offset (unfold lines_in in refl) in
      let b = three-one packet_word (flag_of p.correction) p.ci p.fixed (unfold lines_in in refl) in
      let c = items-lines (take 12 numbers) (read_record words) in
      simp lines-append (omega (arith, a, b, c))

pub private-one : (rec : List ℕ) → lines_in (private_line rec) ≡ 1
private-one rec = rw (← private-line rec) (item-one rec 13)
