-- Demand 1: a refusal is one number from the fixed list; what was lent to a call that refuses is as it was, so is the desk, and a follower
-- changes in its count of refusals only.
-- Assumes nothing.
use mathlib.Core.Path.{◌≡◌, refl, sym, ap, ◌∙◌}
use mathlib.Core.List.{List, Memᴰ}
use mathlib.Core.Option.{Option, none, some}
use Prim.Native.Nat.{ℕ}
use lib.ListN.{length}
use Rattle.refusal.specs.Chain.{left_by}
use Rattle.refusal.specs.Number.{fixed_list, retired, number_of}
use Rattle.refusal.specs.declared.Refusal.{Refusal}
use Rattle.refusal.proofs.Laws.Number.{number-on-list, not-retired}
use Rattle.anc.specs.Words.{low_bytes, sound_words, fill_refusal, fill_leaves}
use Rattle.rs.specs.Decode.{decode_refusal}
use Rattle.rs.proofs.Laws.Decode.{refused-keeps}
use Rattle.search.specs.Marked.{marked_refusal}
use Rattle.search.proofs.Laws.Marked.{refused-keeps-marked}
use Rattle.refusal.specs.Checked.{Checked, checked_of, refusal_in}
use Rattle.items.specs.Item.{item_refusal}
use Rattle.record.specs.Stored.{put_refusal, put_leaves, store_refusal, store_leaves}
use Rattle.record.specs.Written.{written_refusal, written}
use Rattle.steps.specs.Steps.{back_refusal, back_from}
use Rattle.refusal.proofs.Laws.Chain.{refusal-in}
use Rattle.repair.specs.Repair.{repair_leaves}
use Rattle.writing.specs.Written.{write_leaves, layout_leaves}
use Rattle.reading.specs.Answer.{read_leaves}
use Rattle.repair.proofs.Laws.Repair.{refusal-said as repair-said}
use Rattle.writing.proofs.Laws.Writing.{refusal-said as write-said, layout-said}
use Rattle.reading.proofs.Laws.Answer.{into-refusal-said as read-said}
use Rattle.desk.specs.declared.Desk.{Desk}
use Rattle.desk.specs.declared.Turn.{Turn}
use Rattle.desk.specs.Desk.{edited, undo_refusal, undone, send_refusal, sent, send_leaves}
use Rattle.follower.specs.declared.Follower.{Follower}
use Rattle.follower.specs.declared.Followed.{Followed}
use Rattle.follower.specs.Follower.{refused_after, shown_refusal, shown_leaves}
use Rattle.follower.proofs.Laws.Follow.{refused-said}
use Rattle.answers.specs.declared.AyAnswer.{AyAnswer}
use Rattle.answers.specs.declared.AyPacket.{AyPacket}
use Rattle.answers.specs.declared.AyRepaired.{AyRepaired}
use Rattle.answers.specs.declared.AyField.{AyField}
use Rattle.answers.specs.declared.AyTurn.{AyTurn}
use Rattle.answers.specs.Answers.{answer_by}
use Rattle.answers.proofs.Laws.Done.{packet-says, repaired-says, field-says, turn-says}
use Rattle.promises.specs.Refused.{Tells, NotZero, RefusedKeeps}
use Rattle.promises.specs.Calls.{Edits, Undoes, Sends, Follows}
use Rattle.promises.proofs.Laws.Calls.{edits-is, undoes-is, sends-is, follows_is}
use Rattle.anc.proofs.low_bytes.Kinds as low-bytes-types
use Rattle.anc.proofs.low_bytes.Reads as low-bytes-contract
use Rattle.anc.proofs.sound_words.Kinds as sound-words-types
use Rattle.anc.proofs.sound_words.Reads as sound-words-contract
use Rattle.search.proofs.repair.Kinds as search-repair-types
use Rattle.search.proofs.repair.Reads as search-repair-contract
use Rattle.search.proofs.repair_marked.Kinds as repair-marked-types
use Rattle.search.proofs.repair_marked.Reads as repair-marked-contract
use Rattle.plain.proofs.repair.Kinds as plain-repair-types
use Rattle.plain.proofs.repair.Reads as plain-repair-contract
use Rattle.record.proofs.write_record.Kinds as write-record-types
use Rattle.record.proofs.write_record.Reads as write-record-contract
use Rattle.record.proofs.put_item.Kinds as put-item-types
use Rattle.record.proofs.put_item.Reads as put-item-contract
use Rattle.steps.proofs.put_back.Kinds as put-back-types
use Rattle.steps.proofs.put_back.Reads as put-back-contract
use Rattle.record.proofs.store_item.Kinds as store-item-types
use Rattle.record.proofs.store_item.Reads as store-item-contract
use Rattle.repair.proofs.repair.Kinds as repair-types
use Rattle.repair.proofs.repair.Reads as repair-contract
use Rattle.writing.proofs.write_packet.Kinds as write-packet-types
use Rattle.writing.proofs.write_packet.Reads as write-packet-contract
use Rattle.writing.proofs.write_layout.Kinds as write-layout-types
use Rattle.writing.proofs.write_layout.Reads as write-layout-contract
use Rattle.reading.proofs.read_packet_into.Kinds as read-packet-into-types
use Rattle.reading.proofs.read_packet_into.Reads as read-packet-into-contract
use Rattle.b40.specs.Packing.{pack_leaves}
use Rattle.b40.specs.Unpacking.{unpack_leaves}
use Rattle.b40.proofs.Laws.Packing.{refusal-said as pack-said}
use Rattle.b40.proofs.Laws.Unpacking.{refusal-said as unpack-said}
use Rattle.b40.proofs.pack.Kinds as pack-types
use Rattle.b40.proofs.pack.Reads as pack-contract
use Rattle.b40.proofs.unpack.Kinds as unpack-types
use Rattle.b40.proofs.unpack.Reads as unpack-contract
use Rattle.desk.proofs.Desk.send.Kinds as send-types
use Rattle.desk.proofs.Desk.send.Reads as send-contract
use Rattle.follower.proofs.Follower.shown_into.Kinds as shown-into-types
use Rattle.follower.proofs.Follower.shown_into.Reads as shown-into-contract
use Rattle.capi.proofs.ay_write_packet.Kinds as ay-write-packet-types
use Rattle.capi.proofs.ay_write_packet.Reads as ay-write-packet-contract
use Rattle.capi.proofs.ay_read_packet_into.Kinds as ay-read-packet-into-types
use Rattle.capi.proofs.ay_read_packet_into.Reads as ay-read-packet-into-contract
use Rattle.capi.proofs.ay_repair.Kinds as ay-repair-types
use Rattle.capi.proofs.ay_repair.Reads as ay-repair-contract
use Rattle.capi.proofs.ay_pack.Kinds as ay-pack-types
use Rattle.capi.proofs.ay_pack.Reads as ay-pack-contract
use Rattle.capi.proofs.ay_unpack.Kinds as ay-unpack-types
use Rattle.capi.proofs.ay_unpack.Reads as ay-unpack-contract
use Rattle.capi.proofs.ay_desk_send.Kinds as ay-desk-send-types
use Rattle.capi.proofs.ay_desk_send.Reads as ay-desk-send-contract
use Rattle.capi.proofs.ay_follower_shown.Kinds as ay-follower-shown-types
use Rattle.capi.proofs.ay_follower_shown.Reads as ay-follower-shown-contract

-- ---- the number

pub listed : (why : Refusal) → Memᴰ (number_of why.reason) fixed_list
listed why = number-on-list why.reason

-- which is none that is retired
pub never-retired : (why : Refusal) → Memᴰ (number_of why.reason) retired → ⊥
never-retired why = not-retired why.reason

-- ---- the buffers

-- what a refusal leaves
kept : {X : Type 0} (o : Option Refusal) (why : Refusal) (new old : X) → o ≡ some why → left_by o new old ≡ old
kept o why new old e = ap (λ (p : Option Refusal). left_by p new old) e

pub packet-repair : RefusedKeeps 2 repair-types.ps repair-types.r (λ κs. Tells refusal_in) (λ κs i. i.1.0.now) (λ κs s. s.1.0.now) repair-contract.Learnt
unfolding repair_leaves
packet-repair κs i a s p (why, e) = p.1 ∙ kept _ why _ _ (sym (repair-said i.0.now (length i.1.0.now)) ∙ ap refusal_in (sym p.0) ∙ e)

pub write-packet : RefusedKeeps 2 write-packet-types.ps write-packet-types.r (λ κs. Tells refusal_in) (λ κs i. i.1.1.1.0.now) (λ κs s. s.1.1.1.0.now) write-packet-contract.Learnt
unfolding write_leaves
write-packet κs i a s p (why, e) = p.1 ∙ kept _ why _ _ (sym (write-said i.1.0 i.1.1.0.now (length i.1.1.1.0.now)) ∙ ap refusal_in (sym p.0) ∙ e)

pub write-layout : RefusedKeeps 2 write-layout-types.ps write-layout-types.r (λ κs. Tells refusal_in) (λ κs i. i.1.1.1.0.now) (λ κs s. s.1.1.1.0.now) write-layout-contract.Learnt
unfolding layout_leaves
write-layout κs i a s p (why, e) = p.1 ∙ kept _ why _ _ (sym (layout-said i.1.0 i.1.1.0.now (length i.1.1.1.0.now)) ∙ ap refusal_in (sym p.0) ∙ e)

pub read-packet-into : RefusedKeeps 2 read-packet-into-types.ps read-packet-into-types.r (λ κs. Tells refusal_in) (λ κs i. i.1.0.now) (λ κs s. s.1.0.now) read-packet-into-contract.Learnt
unfolding read_leaves
read-packet-into κs i a s p (why, e) = p.1 ∙ kept _ why _ _ (sym (read-said i.0.now (length i.1.0.now)) ∙ ap refusal_in (sym p.0) ∙ e)

pub field-pack : RefusedKeeps 2 pack-types.ps pack-types.r (λ κs. Tells refusal_in) (λ κs i. i.1.1.1.1.0.now) (λ κs s. s.1.1.1.1.0.now) pack-contract.Learnt
unfolding pack_leaves
field-pack κs i a s p (why, e) = p.1 ∙ kept _ why _ _ (sym (pack-said i.1.0 i.1.1.0 i.1.1.1.0.now (length i.1.1.1.1.0.now)) ∙ ap refusal_in (sym p.0) ∙ e)

pub field-unpack : RefusedKeeps 2 unpack-types.ps unpack-types.r (λ κs. Tells refusal_in) (λ κs i. i.1.0.now) (λ κs s. s.1.0.now) unpack-contract.Learnt
unfolding unpack_leaves
field-unpack κs i a s p (why, e) = p.1 ∙ kept _ why _ _ (sym (unpack-said i.0.now (length i.1.0.now)) ∙ ap refusal_in (sym p.0) ∙ e)

-- a check that an answer tells
checked-said : (o : Option Refusal) (a : Checked) (why : Refusal) → a ≡ checked_of o → refusal_in a ≡ some why → o ≡ some why
checked-said o a why p e = sym (refusal-in o) ∙ ap refusal_in (sym p) ∙ e

pub store-item : RefusedKeeps 2 store-item-types.ps store-item-types.r (λ κs. Tells refusal_in) (λ κs i. i.1.1.0.now) (λ κs s. s.1.1.0.now) store-item-contract.Learnt
unfolding store_leaves
store-item κs i a s p (why, e) = p.1 ∙ kept _ why _ _ (checked-said (store_refusal i.0 i.1.0.now (length i.1.1.0.now)) a why p.0 e)

pub desk-send : RefusedKeeps 1 send-types.ps send-types.r (λ κs a. Tells refusal_in a.checked) (λ κs i. i.1.0.now) (λ κs s. s.1.0.now) send-contract.Learnt
unfolding send_leaves sent
desk-send κs i a s p (why, e) = p.1 ∙ kept _ why _ _ (checked-said (send_refusal (length i.1.0.now)) a.checked why (ap (λ (t : Turn). t.checked) p.0) e)

pub follower-shown-into : RefusedKeeps 1 shown-into-types.ps shown-into-types.r (λ κs. Tells refusal_in) (λ κs i. i.1.0.now) (λ κs s. s.1.0.now) shown-into-contract.Learnt
unfolding shown_leaves
follower-shown-into κs i a s p (why, e) = p.1 ∙ kept _ why _ _ (checked-said (shown_refusal (length i.1.0.now)) a why p.0 e)

pub write-record : RefusedKeeps 2 write-record-types.ps write-record-types.r (λ κs. Tells refusal_in) (λ κs i. i.1.0.now) (λ κs s. s.1.0.now) write-record-contract.Learnt
unfolding written
write-record κs i a s p (why, e) = p.1 ∙ kept _ why _ _ (checked-said (written_refusal i.0.now (length i.1.0.now)) a why p.0 e)

pub put_item : RefusedKeeps 2 put-item-types.ps put-item-types.r (λ κs. Tells refusal_in) (λ κs i. i.1.1.0.now) (λ κs s. s.1.1.0.now) put-item-contract.Learnt
unfolding put_leaves
put_item κs i a s p (why, e) = p.1 ∙ kept _ why _ _ (checked-said (put_refusal i.0 i.1.0.now (length i.1.1.0.now)) a why p.0 e)

pub put_back : RefusedKeeps 1 put-back-types.ps put-back-types.r (λ κs. Tells refusal_in) (λ κs i. i.1.0.now) (λ κs s. s.1.0.now) put-back-contract.Learnt
unfolding back_refusal back_from put_leaves
put_back κs i a s p (why, e) = p.1 ∙ kept _ why _ _ (checked-said (back_refusal i.0 (length i.1.0.now)) a why p.0 e)

pub search-repair : RefusedKeeps 1 search-repair-types.ps search-repair-types.r (λ κs. Tells refusal_in) (λ κs i. i.0.now) (λ κs s. s.0.now) search-repair-contract.Learnt
search-repair κs i a s p (why, e) = p.1 ∙ refused-keeps i.0.now why (checked-said (decode_refusal i.0.now) a why p.0 e)

pub repair-marked : RefusedKeeps 2 repair-marked-types.ps repair-marked-types.r (λ κs. Tells refusal_in) (λ κs i. i.0.now) (λ κs s. s.0.now) repair-marked-contract.Learnt
repair-marked κs i a s p (why, e) =
    p.1 ∙ refused-keeps-marked i.1.0.now i.0.now why (checked-said (marked_refusal i.1.0.now i.0.now) a why p.0 e)

pub plain-repair : RefusedKeeps 1 plain-repair-types.ps plain-repair-types.r (λ κs. Tells refusal_in) (λ κs i. i.0.now) (λ κs s. s.0.now) plain-repair-contract.Learnt
plain-repair κs i a s p (why, e) = p.1 ∙ refused-keeps i.0.now why (checked-said (decode_refusal i.0.now) a why p.0 e)

pub low-bytes : RefusedKeeps 2 low-bytes-types.ps low-bytes-types.r (λ κs. Tells refusal_in) (λ κs i. i.1.0.now) (λ κs s. s.1.0.now) low-bytes-contract.Learnt
unfolding fill_leaves
low-bytes κs i a s p (why, e) = p.1 ∙ kept _ why _ _ (checked-said (fill_refusal (low_bytes i.0.now) (length i.1.0.now)) a why p.0 e)

pub sound-words : RefusedKeeps 2 sound-words-types.ps sound-words-types.r (λ κs. Tells refusal_in) (λ κs i. i.1.0.now) (λ κs s. s.1.0.now) sound-words-contract.Learnt
unfolding fill_leaves
sound-words κs i a s p (why, e) = p.1 ∙ kept _ why _ _ (checked-said (fill_refusal (sound_words i.0.now) (length i.1.0.now)) a why p.0 e)

-- ---- the buffers lent by C

-- what is left where the number is not 0; it is the number of what the answer tells, and that is what was refused
kept-for-c : {X : Type 0} (told o : Option Refusal) (number : ℕ) (new old : X) → number ≡ (answer_by told).number → told ≡ o → NotZero number → left_by o new old ≡ old
unfolding answer_by
kept-for-c told none number new old n e z = absurd (z (n ∙ ap (λ (p : Option Refusal). (answer_by p).number) e))
kept-for-c told (some why) number new old n e z = refl

pub ay-write-packet : RefusedKeeps 2 ay-write-packet-types.ps ay-write-packet-types.r (λ κs a. NotZero a.number) (λ κs i. i.1.1.1.0.now) (λ κs s. s.1.1.1.0.now) ay-write-packet-contract.Learnt
unfolding write_leaves
ay-write-packet κs i a s p z = p.1 ∙ kept-for-c _ _ a.number _ _ (ap (λ (x : AyAnswer). x.number) p.0) refl z

pub ay-read-packet-into : RefusedKeeps 2 ay-read-packet-into-types.ps ay-read-packet-into-types.r (λ κs a. NotZero a.number) (λ κs i. i.1.0.now) (λ κs s. s.1.0.now) ay-read-packet-into-contract.Learnt
unfolding read_leaves
ay-read-packet-into κs i a s p z =
    p.1 ∙ kept-for-c _ _ a.number _ _ (ap (λ (x : AyPacket). x.number) p.0 ∙ (packet-says _).number_is) (read-said i.0.now (length i.1.0.now)) z

pub ay-repair : RefusedKeeps 2 ay-repair-types.ps ay-repair-types.r (λ κs a. NotZero a.number) (λ κs i. i.1.0.now) (λ κs s. s.1.0.now) ay-repair-contract.Learnt
unfolding repair_leaves
ay-repair κs i a s p z =
    p.1 ∙ kept-for-c _ _ a.number _ _ (ap (λ (x : AyRepaired). x.number) p.0 ∙ (repaired-says _).number_is) (repair-said i.0.now (length i.1.0.now)) z

pub ay-pack : RefusedKeeps 2 ay-pack-types.ps ay-pack-types.r (λ κs a. NotZero a.number) (λ κs i. i.1.1.1.1.0.now) (λ κs s. s.1.1.1.1.0.now) ay-pack-contract.Learnt
unfolding pack_leaves
ay-pack κs i a s p z = p.1 ∙ kept-for-c _ _ a.number _ _ (ap (λ (x : AyAnswer). x.number) p.0) refl z

pub ay-unpack : RefusedKeeps 2 ay-unpack-types.ps ay-unpack-types.r (λ κs a. NotZero a.number) (λ κs i. i.1.0.now) (λ κs s. s.1.0.now) ay-unpack-contract.Learnt
unfolding unpack_leaves
ay-unpack κs i a s p z =
    p.1 ∙ kept-for-c _ _ a.number _ _ (ap (λ (x : AyField). x.number) p.0 ∙ (field-says _).number_is) (unpack-said i.0.now (length i.1.0.now)) z

pub ay-desk-send : RefusedKeeps 1 ay-desk-send-types.ps ay-desk-send-types.r (λ κs a. NotZero a.number) (λ κs i. i.1.0.now) (λ κs s. s.1.0.now) ay-desk-send-contract.Learnt
unfolding send_leaves sent
ay-desk-send κs i a s p z =
    p.1 ∙ kept-for-c _ _ a.number _ _ (ap (λ (x : AyTurn). x.number) p.0 ∙ (turn-says _).number_is) (refusal-in (send_refusal (length i.1.0.now))) z

pub ay-follower-shown : RefusedKeeps 1 ay-follower-shown-types.ps ay-follower-shown-types.r (λ κs a. NotZero a.number) (λ κs i. i.1.0.now) (λ κs s. s.1.0.now) ay-follower-shown-contract.Learnt
unfolding shown_leaves
ay-follower-shown κs i a s p z = p.1 ∙ kept-for-c _ _ a.number _ _ (ap (λ (x : AyAnswer). x.number) p.0) refl z

-- ---- the desk

pub edit-refused : (d : Desk) (item : ℕ) (bytes : List ℕ) (t : Turn) (why : Refusal) → Edits d item bytes t → refusal_in t.checked ≡ some why → t.desk ≡ d
unfolding edited
edit-refused d item bytes t why E e =
    let is = edits-is d item bytes t E in
    ap (λ (x : Turn). x.desk) is ∙ kept _ why _ d (checked-said (item_refusal item bytes) t.checked why (ap (λ (x : Turn). x.checked) is) e)

pub undo-refused : (d : Desk) (t : Turn) (why : Refusal) → Undoes d t → refusal_in t.checked ≡ some why → t.desk ≡ d
unfolding undone
undo-refused d t why U e =
    let is = undoes-is d t U in
    ap (λ (x : Turn). x.desk) is ∙ kept _ why _ d (checked-said (undo_refusal d) t.checked why (ap (λ (x : Turn). x.checked) is) e)

pub send-refused : (d : Desk) (old : List ℕ) (t : Turn) (left : List ℕ) (why : Refusal) → Sends d old t left → refusal_in t.checked ≡ some why → t.desk ≡ d
unfolding sent
send-refused d old t left why S e =
    let is = sends-is d old t left S in
    ap (λ (x : Turn). x.desk) is ∙ kept _ why _ d (checked-said (send_refusal (length old)) t.checked why (ap (λ (x : Turn). x.checked) is) e)

-- ---- the follower

-- it differs from the one before in its count of refusals alone
pub follow-refused : (f : Follower) (words : List ℕ) (a : Followed) (why : Refusal) → Follows f words a → refusal_in a.heard ≡ some why → a.follower ≡ refused_after f
follow-refused f words a why F e =
    let is = follows_is f words a F in
    ap (λ (x : Followed). x.follower) is ∙ refused-said f words why (ap (λ (x : Followed). refusal_in x.heard) (sym is) ∙ e)
