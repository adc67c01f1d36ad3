-- Demand 1: the place of a refusal is the item's first byte for 11 to 14, a data word's number for 7, a reserved byte's for 15, else 0. Of each public call that can refuse, under its name, with its
-- crate's where two share one; and of the calls for C. `Learnt` is the contract as its caller may use it.
-- Assumes nothing.
use mathlib.Core.Path.{refl, ◌∙◌}
use mathlib.Core.Bool.{false≢true}
use mathlib.Core.Option.{Option, none, some}
use Prim.Native.Nat.{ℕ}
use native.Mathlib.Omega.{arith}
use borrow.Author.Tests.{leb-true, leb-false}
use Rattle.std.specs.Prelude.{Result, Ok, Err}
use Rattle.refusal.specs.Checked.{refusal_in}
use Rattle.refusal.specs.Number.{number_of, bits_in}
use Rattle.refusal.specs.declared.Reason.{Reason}
use Rattle.refusal.specs.declared.Refusal.{Refusal}
use Rattle.refusal.proofs.Laws.Number.{bits-seven, bits-le}
use Rattle.refusal.proofs.Laws.Chain.{refusal-in, refusal-in-answer}
use Rattle.rs.specs.Codeword.{divided_of}
use Rattle.rs.proofs.Laws.Check.{refusal-said as check-said}
use Rattle.view.specs.Read.{record_read_of}
use Rattle.repair.proofs.Laws.Repair.{refusal-said as repair-said, count-said}
use Rattle.writing.proofs.Laws.Writing.{refusal-said as write-said, layout-said}
use Rattle.reading.proofs.Laws.Answer.{refusal-said as read-said, into-refusal-said as into-said}
use Rattle.steps.specs.Steps.{kept_of}
use Rattle.desk.specs.Desk.{opened, edited, undone, sent}
use Rattle.follower.proofs.Laws.Follow.{refusal-heard}
use Rattle.b40.proofs.Laws.Packing.{refusal-said as pack-said}
use Rattle.b40.proofs.Laws.Unpacking.{refusal-said as unpack-said}
use Rattle.reading.specs.declared.Packet.{Packet}
use Rattle.follower.specs.declared.Follower.{Follower}
use Rattle.follower.specs.declared.Arrival.{Arrival}
use Rattle.answers.specs.Answers.{answer_by, packet_from, heard_from, followed_from}
use Rattle.answers.proofs.Laws.Done.{Says, word-says, verdict-says, packet-says, repaired-says, field-says, turn-says, followed-says}
use Rattle.promises.specs.Places.{RightPlace, RightIn, BitsBeside, PlacesRight, AnswersRight, BitsRight}
use Rattle.promises.proofs.Laws.Placed.{open-right, check-right, words_right, fill-right, block-right, decode-right, marked-right, place-right, item-right, record-right, written-right, put_right, store-right, repair-right, count-right, write-right, layout-right, read_right, into-right, step_right, back-right, undo-right, send-right, shown-right, pack-right, unpack-right}
use Rattle.soundness.proofs.check_word.Kinds as check-word-types
use Rattle.soundness.proofs.check_word.Reads as check-word-contract
use Rattle.soundness.proofs.check_words.Kinds as check-words-types
use Rattle.soundness.proofs.check_words.Reads as check-words-contract
use Rattle.anc.proofs.low_bytes.Kinds as low-bytes-types
use Rattle.anc.proofs.low_bytes.Reads as low-bytes-contract
use Rattle.anc.proofs.sound_words.Kinds as sound-words-types
use Rattle.anc.proofs.sound_words.Reads as sound-words-contract
use Rattle.rs.proofs.remainder.Kinds as remainder-types
use Rattle.rs.proofs.remainder.Reads as remainder-contract
use Rattle.rs.proofs.check_codeword.Kinds as check-codeword-types
use Rattle.rs.proofs.check_codeword.Reads as check-codeword-contract
use Rattle.search.proofs.repair.Kinds as search-repair-types
use Rattle.search.proofs.repair.Reads as search-repair-contract
use Rattle.search.proofs.repair_marked.Kinds as repair-marked-types
use Rattle.search.proofs.repair_marked.Reads as repair-marked-contract
use Rattle.plain.proofs.repair.Kinds as plain-repair-types
use Rattle.plain.proofs.repair.Reads as plain-repair-contract
use Rattle.items.proofs.item_place.Kinds as item-place-types
use Rattle.items.proofs.item_place.Reads as item-place-contract
use Rattle.items.proofs.item_refusal.Kinds as item-refusal-types
use Rattle.items.proofs.item_refusal.Reads as item-refusal-contract
use Rattle.record.proofs.record_refusal.Kinds as record-refusal-types
use Rattle.record.proofs.record_refusal.Reads as record-refusal-contract
use Rattle.record.proofs.write_record.Kinds as write-record-types
use Rattle.record.proofs.write_record.Reads as write-record-contract
use Rattle.record.proofs.put_item.Kinds as put-item-types
use Rattle.record.proofs.put_item.Reads as put-item-contract
use Rattle.record.proofs.store_item.Kinds as store-item-types
use Rattle.record.proofs.store_item.Reads as store-item-contract
use Rattle.view.proofs.read_record.Kinds as read-record-types
use Rattle.view.proofs.read_record.Reads as read-record-contract
use Rattle.repair.proofs.repair.Kinds as packet-repair-types
use Rattle.repair.proofs.repair.Reads as packet-repair-contract
use Rattle.repair.proofs.count_fixed.Kinds as count-fixed-types
use Rattle.repair.proofs.count_fixed.Reads as count-fixed-contract
use Rattle.writing.proofs.write_packet.Kinds as write-packet-types
use Rattle.writing.proofs.write_packet.Reads as write-packet-contract
use Rattle.writing.proofs.write_layout.Kinds as write-layout-types
use Rattle.writing.proofs.write_layout.Reads as write-layout-contract
use Rattle.reading.proofs.read_packet.Kinds as read-packet-types
use Rattle.reading.proofs.read_packet.Reads as read-packet-contract
use Rattle.reading.proofs.read_packet_into.Kinds as read-packet-into-types
use Rattle.reading.proofs.read_packet_into.Reads as read-packet-into-contract
use Rattle.steps.proofs.step_of.Kinds as history-step-types
use Rattle.steps.proofs.step_of.Reads as history-step-contract
use Rattle.steps.proofs.put_back.Kinds as put-back-types
use Rattle.steps.proofs.put_back.Reads as put-back-contract
use Rattle.desk.proofs.Desk.open.Kinds as desk-open-types
use Rattle.desk.proofs.Desk.open.Reads as desk-open-contract
use Rattle.desk.proofs.Desk.edit.Kinds as desk-edit-types
use Rattle.desk.proofs.Desk.edit.Reads as desk-edit-contract
use Rattle.desk.proofs.Desk.undo.Kinds as desk-undo-types
use Rattle.desk.proofs.Desk.undo.Reads as desk-undo-contract
use Rattle.desk.proofs.Desk.send.Kinds as desk-send-types
use Rattle.desk.proofs.Desk.send.Reads as desk-send-contract
use Rattle.follower.proofs.Follower.follow.Kinds as follower-follow-types
use Rattle.follower.proofs.Follower.follow.Reads as follower-follow-contract
use Rattle.follower.proofs.Follower.shown_into.Kinds as follower-shown-into-types
use Rattle.follower.proofs.Follower.shown_into.Reads as follower-shown-into-contract
use Rattle.b40.proofs.pack.Kinds as pack-types
use Rattle.b40.proofs.pack.Reads as pack-contract
use Rattle.b40.proofs.unpack.Kinds as unpack-types
use Rattle.b40.proofs.unpack.Reads as unpack-contract
use Rattle.capi.proofs.ay_check_word.Kinds as ay-check-word-types
use Rattle.capi.proofs.ay_check_word.Reads as ay-check-word-contract
use Rattle.capi.proofs.ay_write_packet.Kinds as ay-write-packet-types
use Rattle.capi.proofs.ay_write_packet.Reads as ay-write-packet-contract
use Rattle.capi.proofs.ay_read_packet.Kinds as ay-read-packet-types
use Rattle.capi.proofs.ay_read_packet.Reads as ay-read-packet-contract
use Rattle.capi.proofs.ay_read_packet_into.Kinds as ay-read-packet-into-types
use Rattle.capi.proofs.ay_read_packet_into.Reads as ay-read-packet-into-contract
use Rattle.capi.proofs.ay_repair.Kinds as ay-repair-types
use Rattle.capi.proofs.ay_repair.Reads as ay-repair-contract
use Rattle.capi.proofs.ay_check_codeword.Kinds as ay-check-codeword-types
use Rattle.capi.proofs.ay_check_codeword.Reads as ay-check-codeword-contract
use Rattle.capi.proofs.ay_record_refusal.Kinds as ay-record-refusal-types
use Rattle.capi.proofs.ay_record_refusal.Reads as ay-record-refusal-contract
use Rattle.capi.proofs.ay_pack.Kinds as ay-pack-types
use Rattle.capi.proofs.ay_pack.Reads as ay-pack-contract
use Rattle.capi.proofs.ay_unpack.Kinds as ay-unpack-types
use Rattle.capi.proofs.ay_unpack.Reads as ay-unpack-contract
use Rattle.capi.proofs.ay_desk_open.Kinds as ay-desk-open-types
use Rattle.capi.proofs.ay_desk_open.Reads as ay-desk-open-contract
use Rattle.capi.proofs.ay_desk_edit.Kinds as ay-desk-edit-types
use Rattle.capi.proofs.ay_desk_edit.Reads as ay-desk-edit-contract
use Rattle.capi.proofs.ay_desk_undo.Kinds as ay-desk-undo-types
use Rattle.capi.proofs.ay_desk_undo.Reads as ay-desk-undo-contract
use Rattle.capi.proofs.ay_desk_send.Kinds as ay-desk-send-types
use Rattle.capi.proofs.ay_desk_send.Reads as ay-desk-send-contract
use Rattle.capi.proofs.ay_follower_follow.Kinds as ay-follower-follow-types
use Rattle.capi.proofs.ay_follower_follow.Reads as ay-follower-follow-contract
use Rattle.capi.proofs.ay_follower_shown.Kinds as ay-follower-shown-types
use Rattle.capi.proofs.ay_follower_shown.Reads as ay-follower-shown-contract

-- ---- anc

pub low-bytes : PlacesRight 2 low-bytes-types.ps low-bytes-types.r 0 (λ κs. refusal_in) low-bytes-contract.Learnt
low-bytes κs i a s p = rw (p.0, refusal-in) (fill-right _ _)

pub sound-words : PlacesRight 2 sound-words-types.ps sound-words-types.r 0 (λ κs. refusal_in) sound-words-contract.Learnt
sound-words κs i a s p = rw (p.0, refusal-in) (fill-right _ _)

-- ---- soundness

pub check-word : PlacesRight 0 check-word-types.ps check-word-types.r 0 (λ κs. refusal_in) check-word-contract.Learnt
check-word κs i a s p = rw p (check-right _)

-- of up to 255 words
pub check-words : PlacesRight 1 check-words-types.ps check-words-types.r 255 (λ κs. refusal_in) check-words-contract.Learnt
check-words κs i a s p = rw (p, refusal-in) (words_right _)

-- ---- rs, search and plain

pub remainder : PlacesRight 1 remainder-types.ps remainder-types.r 0 (λ κs. refusal_in) remainder-contract.Learnt
unfolding divided_of
remainder κs i a s p = rw (p, refusal-in-answer) (block-right _)

pub check-codeword : PlacesRight 1 check-codeword-types.ps check-codeword-types.r 0 (λ κs. refusal_in) check-codeword-contract.Learnt
check-codeword κs i a s p = rw (p, check-said) (block-right _)

pub search-repair : PlacesRight 1 search-repair-types.ps search-repair-types.r 0 (λ κs. refusal_in) search-repair-contract.Learnt
search-repair κs i a s p = rw (p.0, refusal-in) (decode-right _)

pub repair-marked : PlacesRight 2 repair-marked-types.ps repair-marked-types.r 0 (λ κs. refusal_in) repair-marked-contract.Learnt
repair-marked κs i a s p = rw (p.0, refusal-in) (marked-right _ _)

pub plain-repair : PlacesRight 1 plain-repair-types.ps plain-repair-types.r 0 (λ κs. refusal_in) plain-repair-contract.Learnt
plain-repair κs i a s p = rw (p.0, refusal-in) (decode-right _)

-- ---- items

pub item-place : PlacesRight 0 item-place-types.ps item-place-types.r 0 (λ κs. refusal_in) item-place-contract.Learnt
item-place κs i a s p = rw (p.0, refusal-in-answer) (place-right _)

pub item-refusal : PlacesRight 1 item-refusal-types.ps item-refusal-types.r 0 (λ κs. refusal_in) item-refusal-contract.Learnt
item-refusal κs i a s p = rw (p, refusal-in) (item-right _ _)

-- ---- record and view

pub record-refusal : PlacesRight 1 record-refusal-types.ps record-refusal-types.r 0 (λ κs. refusal_in) record-refusal-contract.Learnt
record-refusal κs i a s p = rw (p, refusal-in) (record-right _)

pub write-record : PlacesRight 2 write-record-types.ps write-record-types.r 0 (λ κs. refusal_in) write-record-contract.Learnt
write-record κs i a s p = rw (p.0, refusal-in) (written-right _ _)

pub put_item : PlacesRight 2 put-item-types.ps put-item-types.r 0 (λ κs. refusal_in) put-item-contract.Learnt
put_item κs i a s p = rw (p.0, refusal-in) (put_right _ _ _)

pub store-item : PlacesRight 2 store-item-types.ps store-item-types.r 0 (λ κs. refusal_in) store-item-contract.Learnt
store-item κs i a s p = rw (p.0, refusal-in) (store-right _ _ _)

pub read-record : PlacesRight 1 read-record-types.ps read-record-types.r 0 (λ κs. refusal_in) read-record-contract.Learnt
unfolding record_read_of
read-record κs i a s p = rw (p, refusal-in-answer) (record-right _)

-- ---- repair, writing and reading

pub packet-repair : PlacesRight 2 packet-repair-types.ps packet-repair-types.r 0 (λ κs. refusal_in) packet-repair-contract.Learnt
packet-repair κs i a s p = rw (p.0, repair-said) (repair-right _ _)

pub count-fixed : PlacesRight 2 count-fixed-types.ps count-fixed-types.r 0 (λ κs. refusal_in) count-fixed-contract.Learnt
count-fixed κs i a s p = rw (p, count-said) (count-right _ _)

pub write-packet : PlacesRight 2 write-packet-types.ps write-packet-types.r 0 (λ κs. refusal_in) write-packet-contract.Learnt
write-packet κs i a s p = rw (p.0, write-said) (write-right _ _ _)

pub write-layout : PlacesRight 2 write-layout-types.ps write-layout-types.r 0 (λ κs. refusal_in) write-layout-contract.Learnt
write-layout κs i a s p = rw (p.0, layout-said) (layout-right _ _ _)

pub read-packet : PlacesRight 1 read-packet-types.ps read-packet-types.r 248 (λ κs. refusal_in) read-packet-contract.Learnt
read-packet κs i a s p = rw (p, read-said) (read_right _)

pub read-packet-into : PlacesRight 2 read-packet-into-types.ps read-packet-into-types.r 248 (λ κs. refusal_in) read-packet-into-contract.Learnt
read-packet-into κs i a s p = rw (p.0, into-said) (into-right _ _)

-- ---- steps and desk

pub history-step : PlacesRight 1 history-step-types.ps history-step-types.r 0 (λ κs. refusal_in) history-step-contract.Learnt
unfolding kept_of
history-step κs i a s p = rw (p, refusal-in-answer) (step_right _ _)

pub put_back : PlacesRight 1 put-back-types.ps put-back-types.r 0 (λ κs. refusal_in) put-back-contract.Learnt
put_back κs i a s p = rw (p.0, refusal-in) (back-right _ _)

pub desk-open : PlacesRight 0 desk-open-types.ps desk-open-types.r 0 (λ κs a. refusal_in a.checked) desk-open-contract.Learnt
unfolding opened
desk-open κs i a s p = rw (p, refusal-in) (open-right _)

pub desk-edit : PlacesRight 1 desk-edit-types.ps desk-edit-types.r 0 (λ κs a. refusal_in a.checked) desk-edit-contract.Learnt
unfolding edited
desk-edit κs i a s p = rw (p, refusal-in) (item-right _ _)

pub desk-undo : PlacesRight 0 desk-undo-types.ps desk-undo-types.r 0 (λ κs a. refusal_in a.checked) desk-undo-contract.Learnt
unfolding undone
desk-undo κs i a s p = rw (p, refusal-in) (undo-right _)

pub desk-send : PlacesRight 1 desk-send-types.ps desk-send-types.r 0 (λ κs a. refusal_in a.checked) desk-send-contract.Learnt
unfolding sent
desk-send κs i a s p = rw (p.0, refusal-in) (send-right _)

-- ---- follower

pub follower-follow : PlacesRight 1 follower-follow-types.ps follower-follow-types.r 248 (λ κs a. refusal_in a.heard) follower-follow-contract.Learnt
follower-follow κs i a s p = rw (p, refusal-heard) (read_right _)

pub follower-shown-into : PlacesRight 1 follower-shown-into-types.ps follower-shown-into-types.r 0 (λ κs. refusal_in) follower-shown-into-contract.Learnt
follower-shown-into κs i a s p = rw (p.0, refusal-in) (shown-right _)

-- ---- b40

pub pack : PlacesRight 2 pack-types.ps pack-types.r 0 (λ κs. refusal_in) pack-contract.Learnt
pack κs i a s p = rw (p.0, pack-said) (pack-right _ _ _ _)

pub unpack : PlacesRight 2 unpack-types.ps unpack-types.r 0 (λ κs. refusal_in) unpack-contract.Learnt
unpack κs i a s p = rw (p.0, unpack-said) (unpack-right _ _)

-- ---- the calls for C

-- number 0 with place 0 where nothing is refused, else those of the refusal
answer-right : {last : ℕ} (o : Option Refusal) → RightIn last o → RightPlace last (answer_by o).number (answer_by o).place
unfolding answer_by
answer-right none q = record {
  of_item = λ t. absurd (false≢true t);
  of_word = λ t. absurd (false≢true t);
  of_area = λ t. absurd (false≢true t);
  else_zero = λ f. refl;
}
answer-right (some why) q = q.right why refl

-- so are those of a struct that carries that answer
says-right : {last number place : ℕ} {o : Option Refusal} → Says number place o → RightIn last o → RightPlace last number place
says-right {o = o} s q = rw (s.number_is, s.place_is) (answer-right o q)

pub ay-check-word : AnswersRight 0 ay-check-word-types.ps ay-check-word-types.r 0 (λ κs a. a.number) (λ κs a. a.place) ay-check-word-contract.Learnt
ay-check-word κs i a s p = rw p (says-right (word-says _) (check-right _))

pub ay-write-packet : AnswersRight 2 ay-write-packet-types.ps ay-write-packet-types.r 0 (λ κs a. a.number) (λ κs a. a.place) ay-write-packet-contract.Learnt
ay-write-packet κs i a s p = rw p.0 (answer-right _ (write-right _ _ _))

pub ay-read-packet : AnswersRight 1 ay-read-packet-types.ps ay-read-packet-types.r 248 (λ κs a. a.number) (λ κs a. a.place) ay-read-packet-contract.Learnt
ay-read-packet κs i a s p = rw p (says-right (packet-says _) (rw read-said (read_right _)))

pub ay-read-packet-into : AnswersRight 2 ay-read-packet-into-types.ps ay-read-packet-into-types.r 248 (λ κs a. a.number) (λ κs a. a.place) ay-read-packet-into-contract.Learnt
ay-read-packet-into κs i a s p = rw p.0 (says-right (packet-says _) (rw into-said (into-right _ _)))

pub ay-repair : AnswersRight 2 ay-repair-types.ps ay-repair-types.r 0 (λ κs a. a.number) (λ κs a. a.place) ay-repair-contract.Learnt
ay-repair κs i a s p = rw p.0 (says-right (repaired-says _) (rw repair-said (repair-right _ _)))

pub ay-check-codeword : AnswersRight 1 ay-check-codeword-types.ps ay-check-codeword-types.r 0 (λ κs a. a.number) (λ κs a. a.place) ay-check-codeword-contract.Learnt
ay-check-codeword κs i a s p = rw p (says-right (verdict-says _) (rw check-said (block-right _)))

pub ay-record-refusal : AnswersRight 1 ay-record-refusal-types.ps ay-record-refusal-types.r 0 (λ κs a. a.number) (λ κs a. a.place) ay-record-refusal-contract.Learnt
ay-record-refusal κs i a s p = rw p (answer-right _ (record-right _))

pub ay-pack : AnswersRight 2 ay-pack-types.ps ay-pack-types.r 0 (λ κs a. a.number) (λ κs a. a.place) ay-pack-contract.Learnt
ay-pack κs i a s p = rw p.0 (answer-right _ (pack-right _ _ _ _))

pub ay-unpack : AnswersRight 2 ay-unpack-types.ps ay-unpack-types.r 0 (λ κs a. a.number) (λ κs a. a.place) ay-unpack-contract.Learnt
ay-unpack κs i a s p = rw p.0 (says-right (field-says _) (rw unpack-said (unpack-right _ _)))

pub ay-desk-open : AnswersRight 0 ay-desk-open-types.ps ay-desk-open-types.r 0 (λ κs a. a.number) (λ κs a. a.place) ay-desk-open-contract.Learnt
unfolding opened
ay-desk-open κs i a s p = rw p (says-right (turn-says _) (rw refusal-in (open-right _)))

pub ay-desk-edit : AnswersRight 1 ay-desk-edit-types.ps ay-desk-edit-types.r 0 (λ κs a. a.number) (λ κs a. a.place) ay-desk-edit-contract.Learnt
unfolding edited
ay-desk-edit κs i a s p = rw p (says-right (turn-says _) (rw refusal-in (item-right _ _)))

pub ay-desk-undo : AnswersRight 0 ay-desk-undo-types.ps ay-desk-undo-types.r 0 (λ κs a. a.number) (λ κs a. a.place) ay-desk-undo-contract.Learnt
unfolding undone
ay-desk-undo κs i a s p = rw p (says-right (turn-says _) (rw refusal-in (undo-right _)))

pub ay-desk-send : AnswersRight 1 ay-desk-send-types.ps ay-desk-send-types.r 0 (λ κs a. a.number) (λ κs a. a.place) ay-desk-send-contract.Learnt
unfolding sent
ay-desk-send κs i a s p = rw p.0 (says-right (turn-says _) (rw refusal-in (send-right _)))

pub ay-follower-follow : AnswersRight 1 ay-follower-follow-types.ps ay-follower-follow-types.r 248 (λ κs a. a.number) (λ κs a. a.place) ay-follower-follow-contract.Learnt
ay-follower-follow κs i a s p = rw p (says-right (followed-says _) (rw refusal-heard (read_right _)))

pub ay-follower-shown : AnswersRight 1 ay-follower-shown-types.ps ay-follower-shown-types.r 0 (λ κs a. a.number) (λ κs a. a.place) ay-follower-shown-contract.Learnt
ay-follower-shown κs i a s p = rw p.0 (answer-right _ (shown-right _))

-- ---- the bits beside 7

reason-bits : (why : Reason) → BitsBeside (number_of why) (bits_in why)
reason-bits why = record {
  of_word = λ t. (leb-true 1 (bits_in why) (bits-seven why ∙ t), bits-le why);
  else_zero = λ f. omega (arith, leb-false 1 (bits_in why) (bits-seven why ∙ f));
}

no_bits : BitsBeside 0 0
no_bits = record { of_word = λ t. absurd (false≢true t); else_zero = λ f. refl }

packet-bits : (a : Result Packet Refusal) → BitsBeside (packet_from a).number (packet_from a).bits
unfolding packet_from
packet-bits (Ok p) = no_bits
packet-bits (Err why) = reason-bits why.reason

heard-bits : (f : Follower) (h : Result Arrival Refusal) → BitsBeside (heard_from f h).number (heard_from f h).bits
unfolding heard_from
heard-bits f (Ok a) = no_bits
heard-bits f (Err why) = reason-bits why.reason

pub ay-read-packet-bits : BitsRight 1 ay-read-packet-types.ps ay-read-packet-types.r (λ κs a. a.number) (λ κs a. a.bits) ay-read-packet-contract.Learnt
ay-read-packet-bits κs i a s p = rw p (packet-bits _)

pub ay-read-packet-into-bits : BitsRight 2 ay-read-packet-into-types.ps ay-read-packet-into-types.r (λ κs a. a.number) (λ κs a. a.bits) ay-read-packet-into-contract.Learnt
ay-read-packet-into-bits κs i a s p = rw p.0 (packet-bits _)

pub ay-follower-follow-bits : BitsRight 1 ay-follower-follow-types.ps ay-follower-follow-types.r (λ κs a. a.number) (λ κs a. a.bits) ay-follower-follow-contract.Learnt
unfolding followed_from
ay-follower-follow-bits κs i a s p = rw p (heard-bits _ _)
