-- The lines that are printed of a field: `refused N P` alone, or the field's head, the packet, and each item's record bytes.
-- Assumes nothing.
use Rattle.std.specs.Prelude.{Bool, cond, List, [], ◌∷◌, ◌++◌, map, ℕ, ◌+◌, eqb, Result}
use Rattle.std.proofs.Math.Option.{Option, none, some}
use Rattle.refusal.specs.Chain.{next}
use Rattle.refusal.specs.Checked.{answer_of}
use Rattle.refusal.specs.Number.{number_of}
use Rattle.refusal.specs.declared.Refusal.{Refusal}
use Rattle.items.specs.Items.{items}
use Rattle.record.specs.Record.{private_part}
use Rattle.record.specs.Stored.{item_lent}
use Rattle.reading.specs.declared.Packet.{Packet}
use Rattle.reading.specs.Reading.{read_refusal, read_record}
use Rattle.reading.specs.Answer.{packet_of}
use Rattle.b40.specs.declared.Head.{Head}
use Rattle.b40.specs.Field.{words_of}
use Rattle.b40.specs.Unpacking.{unpack_refusal, head_of}
use Rattle.lines.specs.declared.page.Page.{Page}
use Rattle.lines.specs.Text.{decimal, hex_bytes, blank, written}

-- a space, and the end of a line
abbrev pub space : ℕ
space = 0x20

abbrev pub newline : ℕ
newline = 0x0A

-- the three words that lines begin with, each with its space: refused, field, packet
unfoldable pub refused_word : List ℕ
refused_word = 0x72 ∷ 0x65 ∷ 0x66 ∷ 0x75 ∷ 0x73 ∷ 0x65 ∷ 0x64 ∷ space ∷ []

unfoldable pub field_word : List ℕ
field_word = 0x66 ∷ 0x69 ∷ 0x65 ∷ 0x6C ∷ 0x64 ∷ space ∷ []

unfoldable pub packet_word : List ℕ
packet_word = 0x70 ∷ 0x61 ∷ 0x63 ∷ 0x6B ∷ 0x65 ∷ 0x74 ∷ space ∷ []

-- a line of three numbers, of two
unfoldable pub three_line : List ℕ → ℕ → ℕ → ℕ → List ℕ
three_line word a b c = word ++ decimal a ++ (space ∷ []) ++ decimal b ++ (space ∷ []) ++ decimal c ++ (newline ∷ [])

unfoldable pub refused_line : Refusal → List ℕ
refused_line why = refused_word ++ decimal (number_of why.reason) ++ (space ∷ []) ++ decimal why.place ++ (newline ∷ [])

-- yes is 1 and no is 0
abbrev pub flag_of : Bool → ℕ
flag_of b = cond b 1 0

-- Y/C, line, offset
unfoldable pub field_line : Bool → ℕ → ℕ → List ℕ
field_line yc line offset = three_line field_word (flag_of yc) line offset

-- correction, CI, fixed
unfoldable pub packet_line : Packet → List ℕ
packet_line p = three_line packet_word (flag_of p.correction) p.ci p.fixed

-- an item's number and its record bytes
unfoldable pub item_line : List ℕ → ℕ → List ℕ
item_line rec number = decimal number ++ hex_bytes (item_lent number rec) ++ (newline ∷ [])

-- a line for each of these items
unfoldable pub item_lines : List ℕ → List ℕ → List ℕ
item_lines [] rec = []
item_lines (number ∷ rest) rec = item_line rec number ++ item_lines rest rec

-- the numbers of the table of items
unfoldable pub numbers : List ℕ
numbers = map (λ i. i.number) items

-- ---- what is printed of a field

-- where it is not refused: the head, the packet and each item of the table
abbrev pub accepted_lines : Head → List ℕ → List ℕ
accepted_lines h words = field_line h.yc h.line h.offset ++ packet_line (packet_of words) ++ item_lines numbers (read_record words)

-- the refusal alone, or those
abbrev pub lines_by : Option Refusal → Head → List ℕ → List ℕ
lines_by none h words = accepted_lines h words
lines_by (some why) h words = refused_line why

-- what a field is refused for: 25 and 26, and then what the packet is refused for
abbrev pub field_refusal : List ℕ → Option Refusal
field_refusal field = next (unpack_refusal field 262) (read_refusal (words_of field))

unfoldable pub field_lines : List ℕ → List ℕ
field_lines field = lines_by (field_refusal field) (head_of field) (words_of field)

-- how many lines a text has
unfoldable pub lines_in : List ℕ → ℕ
lines_in [] = 0
lines_in (c ∷ text) = cond (eqb c newline) 1 0 + lines_in text

-- the line of item 13: its number and the private area
unfoldable pub private_line : List ℕ → List ℕ
private_line rec = (0x31 ∷ 0x33 ∷ []) ++ hex_bytes (private_part rec) ++ (newline ∷ [])

-- the page of a field that is not refused
unfoldable pub accepted_of : List ℕ → Result Page Refusal
accepted_of field = answer_of (field_refusal field) (written blank (accepted_lines (head_of field) (words_of field)))

-- the page of a field
unfoldable pub shown : List ℕ → Page
shown field = written blank (field_lines field)
