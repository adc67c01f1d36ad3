-- A desk that was opened cannot break: whatever edits, undos and sends follow, refused ones among them, nothing in its bytes is refused. So send, which
-- writes them as they stand, writes its record.
-- Assumes nothing.
use mathlib.Core.Path.{◌≡◌, sym, ap, ◌∙◌, subst}
use mathlib.Core.Bool.{true}
use mathlib.Core.List.{List}
use Prim.Native.Nat.{ℕ, ◌%◌}
use native.Mathlib.Omega.{arith}
use lib.ListN.{length}
use Rattle.std.specs.Prelude.{Ok}
use Rattle.refusal.specs.Checked.{Checked, checked_of}
use Rattle.record.specs.Record.{record_of}
use Rattle.record.proofs.Laws.Reserved.{content-decides, content-zero, content-rules}
use Rattle.record.proofs.Laws.Stored.{CleanRecord}
use Rattle.writing.specs.Layout.{packet_words}
use Rattle.writing.specs.Writing.{written_words}
use Rattle.writing.proofs.Laws.Writing.{done-wrote, wrote-done}
use Rattle.desk.specs.declared.Desk.{Desk}
use Rattle.desk.specs.declared.Turn.{Turn}
use Rattle.desk.specs.Model.{Model}
use Rattle.promises.specs.Calls.{Sends}
use Rattle.promises.specs.PacketCalls.{ChecksRecord, Writes}
use Rattle.promises.specs.History.{History}
use Rattle.promises.specs.Unbroken.{Unbroken}
use Rattle.promises.proofs.Laws.PacketCalls.{checks-record-is, writes-leaves}
use Rattle.promises.proofs.Laws.History.{stands, sent_is}

module _ (d : Desk) (m : Model) (h : History d m) where
  clean : CleanRecord d.bytes
  clean = let s = stands d m h in subst CleanRecord (sym s.bytes) s.clean.present

  -- its bytes break no rule, with zeros in the reserved area,
  pub never-broken : Unbroken d.bytes
  never-broken = record {
    long = clean.long;
    rules = content-rules d.bytes clean.rules;
    reserved = content-zero d.bytes clean.long clean.rules;
    own = clean.own;
  }

  -- and the call that checks a record passes them
  pub never-refused : (a : Checked) → ChecksRecord d.bytes a → a ≡ Ok tt
  never-refused a C = checks-record-is d.bytes a C ∙ ap checked_of (content-decides d.bytes clean.long ∙ clean.rules)

  module _ (old : List ℕ) (t : Turn) (left : List ℕ) (S : Sends d old t left) (n : length old ≡ 262) where
    -- so the words sent are those of its record,
    pub sent-record : left ≡ packet_words true (m.sends % 16) (record_of d.bytes)
    sent-record = (sent_is d m h old t left S n).1 ∙ ap (packet_words true (m.sends % 16)) (sym (stands d m h).bytes ∙ sym clean.own)

    -- the very ones that the call that writes a packet from bytes writes from its bytes
    pub sent-written : (a : Checked) (words : List ℕ) → Writes true (m.sends % 16) d.bytes old a words → left ≡ words
    unfolding written_words
    sent-written a words W =
        let done = wrote-done (m.sends % 16) d.bytes clean.long (omega arith) clean.rules in
        sent-record ∙ sym (done-wrote true (m.sends % 16) d.bytes old (rw n done)).left ∙ sym (writes-leaves true (m.sends % 16) d.bytes old a words W)
