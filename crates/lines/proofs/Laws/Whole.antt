-- The page is whole: the lines of every field have a place for each character, so that what is printed is the lines themselves.
-- Assumes nothing.
use mathlib.Core.Path.{◌≡◌, refl, sym, ap, ◌∙◌}
use mathlib.Core.Bool.{Bool, true, false, cond}
use mathlib.Core.List.{List, [], ◌∷◌, ◌++◌, append-nil}
use mathlib.Core.Option.{Option, none, some}
use Prim.Native.Nat.{ℕ, ◌+◌, ◌*◌, ◌≤◌, ◌<◌}
use native.Mathlib.Numerals.{add-one}
use native.Mathlib.Omega.{arith}
use borrow.Author.Tests.{lt-ltb}
use lib.Dec.{eqb}
use lib.ListN.{length, take, length-append, length-take, length-drop}
use lib.Seq.{take-suc-set, append_snoc}
use Rattle.refusal.specs.Chain.{next}
use Rattle.refusal.specs.Number.{number_of}
use Rattle.refusal.specs.declared.Refusal.{Refusal}
use Rattle.items.specs.Items.{Row, items, part}
use Rattle.items.specs.Item.{row_of, place_in, place_of, part_in, item_part}
use Rattle.record.specs.Stored.{item_lent}
use Rattle.reading.specs.declared.Packet.{Packet}
use Rattle.reading.specs.Reading.{read_refusal, read_record}
use Rattle.reading.specs.Answer.{packet_of}
use Rattle.b40.specs.declared.Head.{Head}
use Rattle.b40.specs.Field.{words_of}
use Rattle.b40.specs.Unpacking.{unpack_refusal, head_of}
use Rattle.lines.specs.Text.{decimal, hex_byte, hex_bytes, places, blank, pushed, written}
use Rattle.lines.specs.Shown.{refused_word, field_word, packet_word, three_line, refused_line, field_line, packet_line, item_line, item_lines, numbers, flag_of, lines_by, field_lines, shown}
use Rattle.lines.specs.declared.page.Page.{Page}
use Rattle.lines.proofs.Laws.Page.{Sized, blank-sized, push-sized}

-- ---- how long the lines are

-- a number has at most five digits
pub decimal-length : (n : ℕ) → length (decimal n) ≤ 5
unfolding decimal
decimal-length n = simp length-drop (omega arith)

-- a byte has three characters
pub hex-length : (bytes : List ℕ) → length (hex_bytes bytes) ≡ 3 * length bytes
unfolding hex_bytes hex_byte
hex-length [] = refl
hex-length (b ∷ bytes) = omega (arith, hex-length bytes)

-- a line of three numbers, and of a refusal
pub three-length : (word : List ℕ) (a b c : ℕ) → length (three_line word a b c) ≤ length word + 18
unfolding three_line
three-length word a b c = simp length-append (omega (arith, decimal-length a, decimal-length b, decimal-length c))

pub refused-length : (why : Refusal) → length (refused_line why) ≤ 20
unfolding refused_line refused_word
refused-length why = simp length-append (omega (arith, decimal-length (number_of why.reason), decimal-length why.place))

-- an item's part has at most the bytes of its row in the table
part_length : (rec : List ℕ) (o : Option Row) → length (part_in rec o) ≤ (place_in o).length
unfolding part_in place_in part
part_length rec none = omega arith
part_length rec (some i) = simp length-take (omega arith)

pub lent_length : (number : ℕ) (rec : List ℕ) → length (item_lent number rec) ≤ (place_of number).length
unfolding item_lent item_part place_of
lent_length number rec = by (eqb (length rec) 248)
  where
    by : (t : Bool) → length (cond t (part_in rec (row_of number items)) []) ≤ (place_in (row_of number items)).length
    by true = part_length rec (row_of number items)
    by false = omega arith

pub item-length : (rec : List ℕ) (number : ℕ) → length (item_line rec number) ≤ 3 * (place_of number).length + 6
unfolding item_line
item-length rec number = simp (length-append, hex-length) (omega (arith, decimal-length number, lent_length number rec))

-- the places that the lines of these items may take
abbrev items_take : List ℕ → ℕ
items_take [] = 0
items_take (number ∷ rest) = 3 * (place_of number).length + 6 + items_take rest

pub items-length : (ns : List ℕ) (rec : List ℕ) → length (item_lines ns rec) ≤ items_take ns
unfolding item_lines
items-length [] rec = omega arith
items-length (number ∷ rest) rec = simp length-append (omega (arith, item-length rec number, items-length rest rec))

-- and those of the whole table
pub table-length : (rec : List ℕ) → length (item_lines numbers rec) ≤ 630
unfolding numbers place_of place_in row_of items
table-length rec = items-length numbers rec

-- ---- the lines of every field fit

lines-by : (o : Option Refusal) (h : Head) (words : List ℕ) → length (lines_by o h words) ≤ places
unfolding field_line packet_line field_word packet_word
lines-by none h words =
    let p : Packet = packet_of words in
    simp length-append
    (omega (arith, three-length field_word (flag_of h.yc) h.line h.offset, three-length packet_word (flag_of p.correction) p.ci p.fixed, table-length (read_record words)))
lines-by (some why) h words = omega (arith, refused-length why)

pub lines_fit : (field : List ℕ) → length (field_lines field) ≤ places
unfolding field_lines
lines_fit field = lines-by (next (unpack_refusal field 262) (read_refusal (words_of field))) (head_of field) (words_of field)

-- ---- what fits is written whole

-- one character more
push-whole : (p : Page) (c : ℕ) → Sized p → p.length < places → take (pushed p c).length (pushed p c).bytes ≡ take p.length p.bytes ++ (c ∷ [])
unfolding pushed
push-whole p c s h = rw (lt-ltb p.length places h, add-one) (take-suc-set p.bytes p.length c (omega arith))

push-length : (p : Page) (c : ℕ) → p.length < places → (pushed p c).length ≡ p.length + 1
unfolding pushed
push-length p c h = rw (lt-ltb p.length places h)

-- text more, behind what is written
pub written_behind : (p : Page) (text : List ℕ) → Sized p → p.length + length text ≤ places
    → take (written p text).length (written p text).bytes ≡ take p.length p.bytes ++ text
unfolding written
written_behind p [] s h = sym (append-nil _)
written_behind p (c ∷ text) s h =
    written_behind (pushed p c) text (push-sized p c s) (omega (arith, push-length p c (omega arith)))
    ∙ ap (λ (l : List ℕ). l ++ text) (push-whole p c s (omega arith))
    ∙ append_snoc (take p.length p.bytes) c text

pub written-whole : (text : List ℕ) → length text ≤ places → take (written blank text).length (written blank text).bytes ≡ text
unfolding blank
written-whole text h = written_behind blank text blank-sized (omega arith)

-- what is printed of a field
pub shown-whole : (field : List ℕ) → take (shown field).length (shown field).bytes ≡ field_lines field
unfolding shown
shown-whole field = written-whole (field_lines field) (lines_fit field)
