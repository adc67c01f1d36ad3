-- What is printed of a field is its lines, whole: nothing is cut for want of a place on the page; and they are fifteen where it is not refused.
-- Assumes nothing.
use mathlib.Core.Path.{◌≡◌, ap, ◌∙◌}
use mathlib.Core.Bool.{Bool}
use mathlib.Core.List.{List, ◌++◌}
use mathlib.Core.Option.{Option, none}
use Prim.Native.Nat.{ℕ}
use lib.ListN.{length, take}
use Rattle.refusal.specs.Chain.{next}
use Rattle.refusal.specs.declared.Refusal.{Refusal}
use Rattle.refusal.proofs.Laws.Chain.{next-passed}
use Rattle.record.specs.Record.{record_of, private_part}
use Rattle.record.proofs.Laws.Record.{record-length}
use Rattle.reading.specs.Reading.{read_bytes, read_refusal, read_record}
use Rattle.reading.proofs.Laws.Whole.{read_length}
use Rattle.b40.specs.Field.{words_of}
use Rattle.b40.specs.Unpacking.{unpack_refusal, head_of}
use Rattle.std.specs.Prelude.{Ok}
use Rattle.lines.specs.declared.page.Page.{Page}
use Rattle.lines.specs.Shown.{lines_by, field_lines, field_line, packet_line, numbers, item_lines, private_line}
use Rattle.lines.proofs.Laws.Counted.{first_lines, last_line, first-lines, private-one}
use Rattle.lines.proofs.Laws.Whole.{shown-whole}
use Rattle.promises.specs.Calls.{Shows}
use Rattle.promises.specs.PacketCalls.{Writes}
use Rattle.promises.specs.Private.{Fifteen}
use Rattle.promises.proofs.Laws.Calls.{shows-is}
use Rattle.promises.proofs.Laws.Packets.{packet, reads, record-read}
use Rattle.promises.proofs.Laws.Private.{private-long}

pub printed : (field : List ℕ) (page : Page) → Shows field page → take page.length page.bytes ≡ field_lines field
printed field page S = rw (shows-is field page S) (shown-whole field)

-- of a field that is not refused, fifteen lines, the last of them `13` and the 141 bytes of its record's private area
pub printed-fifteen : (field : List ℕ) (page : Page) → Shows field page → next (unpack_refusal field 262) (read_refusal (words_of field)) ≡ none
    → Fifteen (take page.length page.bytes) (private_line (read_record (words_of field))) × (length (private_part (read_record (words_of field))) ≡ 141)
unfolding field_lines read_record
printed-fifteen field page S e =
    let words : List ℕ = words_of field in
    let long = record-length (read_bytes words) (read_length words (next-passed (unpack_refusal field 262) (read_refusal words) e).1) in (
      record {
        first = first_lines (head_of field) words;
        whole = printed field page S ∙ ap (λ (o : Option Refusal). lines_by o (head_of field) words) e ∙ last_line (head_of field) words;
        fourteen = first-lines (head_of field) words;
        one = private-one (read_record words);
      },
      private-long (read_record words) long,
    )

-- of a field that holds a packet as it was written, with correction on or off: its head, the packet and the items of the record
pub written-shown : (on : Bool) (ci : ℕ) (bytes old words : List ℕ) → Writes on ci bytes old (Ok tt) words
    → (field : List ℕ) (page : Page) → Shows field page → unpack_refusal field 262 ≡ none → words_of field ≡ words
    → take page.length page.bytes
    ≡ field_line (head_of field).yc (head_of field).line (head_of field).offset ++ packet_line (record { correction = on; ci = ci; fixed = 0 }) ++ item_lines numbers (record_of bytes)
unfolding field_lines
written-shown on ci bytes old words W field page S u e =
    let R = reads on ci bytes old words W in
    printed field page S ∙ rw (u, e, R.accepted, packet on ci bytes old words W, record-read on ci bytes old words W)
