-- Each call's answer is the only one that its contract allows, and so is what it leaves in a buffer that it was lent; and the two repairers
-- agree. `Learnt` is the contract as its caller may use it.
-- Assumes nothing.
use mathlib.Core.Path.{◌≡◌, refl, sym, ap, ◌∙◌}
use Prim.Native.Nat.{ℕ, ◌<◌}
use native.Mathlib.Omega.{arith}
use Rattle.std.specs.Prelude.{Option as Given, Some, None}
use Rattle.std.specs.Option.{MatchOption}
use Rattle.gf256.specs.Field.{pow}
use Rattle.gf256.proofs.Laws.Product.{pow_pos, pow-inj}
use Rattle.promises.specs.Only.{OneAnswer, OnePart, OneList, SameOutcome, OneOutcome}
use Rattle.gf256.proofs.Laws.Tables.{powers-unique, logs-unique}
use Rattle.gf256.proofs.Laws.Lent.{wheel-unique}
use Rattle.refusal.proofs.U8FromReason.from.Kinds as number-types
use Rattle.refusal.proofs.U8FromReason.from.Reads as number-contract
use Rattle.refusal.proofs.U8FromWrong.from.Kinds as bits-types
use Rattle.refusal.proofs.U8FromWrong.from.Reads as bits-contract
use Rattle.refusal.proofs.bits_in.Kinds as bits-in-types
use Rattle.refusal.proofs.bits_in.Reads as bits-in-contract
use Rattle.refusal.proofs.plain.Kinds as plain-types
use Rattle.refusal.proofs.plain.Reads as plain-contract
use Rattle.refusal.proofs.at.Kinds as at-types
use Rattle.refusal.proofs.at.Reads as at-contract
use Rattle.refusal.proofs.require.Kinds as require-types
use Rattle.refusal.proofs.require.Reads as require-contract
use Rattle.anc.proofs.word_of.Kinds as word-of-types
use Rattle.anc.proofs.word_of.Reads as word-of-contract
use Rattle.soundness.proofs.check_word.Kinds as check-word-types
use Rattle.soundness.proofs.check_word.Reads as check-word-contract
use Rattle.soundness.proofs.check_words.Kinds as check-words-types
use Rattle.soundness.proofs.check_words.Reads as check-words-contract
use Rattle.anc.proofs.checksum.Kinds as checksum-types
use Rattle.anc.proofs.checksum.Reads as checksum-contract
use Rattle.anc.proofs.has_flag.Kinds as has-flag-types
use Rattle.anc.proofs.has_flag.Reads as has-flag-contract
use Rattle.anc.proofs.narrow.Kinds as narrow-types
use Rattle.anc.proofs.narrow.Reads as narrow-contract
use Rattle.anc.proofs.low_bytes.Kinds as low-bytes-types
use Rattle.anc.proofs.low_bytes.Reads as low-bytes-contract
use Rattle.anc.proofs.sound_words.Kinds as sound-words-types
use Rattle.anc.proofs.sound_words.Reads as sound-words-contract
use Rattle.rules.proofs.station.Kinds as station-types
use Rattle.rules.proofs.station.Reads as station-contract
use Rattle.rules.proofs.time.Kinds as time-types
use Rattle.rules.proofs.time.Reads as time-contract
use Rattle.rules.proofs.picture.Kinds as picture-types
use Rattle.rules.proofs.picture.Reads as picture-contract
use Rattle.rules.proofs.picture_clean.Kinds as picture-clean-types
use Rattle.rules.proofs.picture_clean.Reads as picture-clean-contract
use Rattle.rules.proofs.sound_byte.Kinds as sound-byte-types
use Rattle.rules.proofs.sound_byte.Reads as sound-byte-contract
use Rattle.repair.proofs.count_fixed.Kinds as count-fixed-types
use Rattle.repair.proofs.count_fixed.Reads as count-fixed-contract
use Rattle.gf256.proofs.powers.Kinds as powers-types
use Rattle.gf256.proofs.powers.Reads as powers-contract
use Rattle.gf256.proofs.logs.Kinds as logs-types
use Rattle.gf256.proofs.logs.Reads as logs-contract
use Rattle.gf256.proofs.wheel.Kinds as wheel-types
use Rattle.gf256.proofs.wheel.Reads as wheel-contract
use Rattle.gf256.proofs.log_in.Kinds as log-in-types
use Rattle.gf256.proofs.log_in.Reads as log-in-contract
use Rattle.gf256.proofs.product_in.Kinds as product-in-types
use Rattle.gf256.proofs.product_in.Reads as product-in-contract
use Rattle.gf256.proofs.quotient_in.Kinds as quotient-in-types
use Rattle.gf256.proofs.quotient_in.Reads as quotient-in-contract
use Rattle.gf256.proofs.sum.Kinds as sum-types
use Rattle.gf256.proofs.sum.Reads as sum-contract
use Rattle.gf256.proofs.product.Kinds as product-types
use Rattle.gf256.proofs.product.Reads as product-contract
use Rattle.gf256.proofs.quotient.Kinds as quotient-types
use Rattle.gf256.proofs.quotient.Reads as quotient-contract
use Rattle.gf256.proofs.Tables.new.Kinds as tables-new-types
use Rattle.gf256.proofs.Tables.new.Reads as tables-new-contract
use Rattle.gf256.proofs.Tables.product.Kinds as tables-product-types
use Rattle.gf256.proofs.Tables.product.Reads as tables-product-contract
use Rattle.gf256.proofs.Tables.quotient.Kinds as tables-quotient-types
use Rattle.gf256.proofs.Tables.quotient.Reads as tables-quotient-contract
use Rattle.gf256.proofs.Tables.power.Kinds as tables-power-types
use Rattle.gf256.proofs.Tables.power.Reads as tables-power-contract
use Rattle.gf256.proofs.Tables.wheel.Kinds as tables-wheel-types
use Rattle.gf256.proofs.Tables.wheel.Reads as tables-wheel-contract
use Rattle.gf256.proofs.Tables.log.Kinds as tables-log-types
use Rattle.gf256.proofs.Tables.log.Reads as tables-log-contract
use Rattle.rs.proofs.divisor.Kinds as divisor-types
use Rattle.rs.proofs.divisor.Reads as divisor-contract
use Rattle.rs.proofs.parity.Kinds as parity-types
use Rattle.rs.proofs.parity.Reads as parity-contract
use Rattle.rs.proofs.remainder.Kinds as remainder-types
use Rattle.rs.proofs.remainder.Reads as remainder-contract
use Rattle.rs.proofs.check_codeword.Kinds as check-codeword-types
use Rattle.rs.proofs.check_codeword.Reads as check-codeword-contract
use Rattle.search.proofs.repair.Kinds as search-repair-types
use Rattle.search.proofs.repair.Reads as search-repair-contract
use Rattle.search.proofs.repair_marked.Kinds as repair-marked-types
use Rattle.search.proofs.repair_marked.Reads as repair-marked-contract
use Rattle.plain.proofs.repair.Kinds as plain-repair-types
use Rattle.plain.proofs.repair.Reads as plain-repair-contract
use Rattle.record.proofs.record_refusal.Kinds as record-refusal-types
use Rattle.record.proofs.record_refusal.Reads as record-refusal-contract
use Rattle.record.proofs.write_record.Kinds as write-record-types
use Rattle.record.proofs.write_record.Reads as write-record-contract
use Rattle.record.proofs.private_part.Kinds as private-part-types
use Rattle.record.proofs.private_part.Reads as private-part-contract
use Rattle.items.proofs.is_picture.Kinds as is-picture-types
use Rattle.items.proofs.is_picture.Reads as is-picture-contract
use Rattle.items.proofs.item_place.Kinds as item-place-types
use Rattle.items.proofs.item_place.Reads as item-place-contract
use Rattle.items.proofs.item_refusal.Kinds as item-refusal-types
use Rattle.items.proofs.item_refusal.Reads as item-refusal-contract
use Rattle.record.proofs.item_part.Kinds as item-part-types
use Rattle.record.proofs.item_part.Reads as item-part-contract
use Rattle.record.proofs.put_item.Kinds as put-item-types
use Rattle.record.proofs.put_item.Reads as put-item-contract
use Rattle.record.proofs.store_item.Kinds as store-item-types
use Rattle.record.proofs.store_item.Reads as store-item-contract
use Rattle.view.proofs.read_record.Kinds as read-record-types
use Rattle.view.proofs.read_record.Reads as read-record-contract
use Rattle.repair.proofs.repair.Kinds as packet-repair-types
use Rattle.repair.proofs.repair.Reads as packet-repair-contract
use Rattle.writing.proofs.write_packet.Kinds as write-packet-types
use Rattle.writing.proofs.write_packet.Reads as write-packet-contract
use Rattle.writing.proofs.write_layout.Kinds as write-layout-types
use Rattle.writing.proofs.write_layout.Reads as write-layout-contract
use Rattle.reading.proofs.read_packet.Kinds as read-packet-types
use Rattle.reading.proofs.read_packet.Reads as read-packet-contract
use Rattle.reading.proofs.read_packet_into.Kinds as read-packet-into-types
use Rattle.reading.proofs.read_packet_into.Reads as read-packet-into-contract
use Rattle.steps.proofs.held.Kinds as held_types
use Rattle.steps.proofs.held.Reads as held-contract
use Rattle.steps.proofs.count_on.Kinds as count-on-types
use Rattle.steps.proofs.count_on.Reads as count-on-contract
use Rattle.steps.proofs.step_of.Kinds as history-step-types
use Rattle.steps.proofs.step_of.Reads as history-step-contract
use Rattle.steps.proofs.push.Kinds as push-types
use Rattle.steps.proofs.push.Reads as push-contract
use Rattle.steps.proofs.put_back.Kinds as put-back-types
use Rattle.steps.proofs.put_back.Reads as put-back-contract
use Rattle.desk.proofs.Desk.open.Kinds as desk-open-types
use Rattle.desk.proofs.Desk.open.Reads as desk-open-contract
use Rattle.desk.proofs.Desk.edit.Kinds as desk-edit-types
use Rattle.desk.proofs.Desk.edit.Reads as desk-edit-contract
use Rattle.desk.proofs.Desk.undo.Kinds as desk-undo-types
use Rattle.desk.proofs.Desk.undo.Reads as desk-undo-contract
use Rattle.desk.proofs.Desk.send.Kinds as desk-send-types
use Rattle.desk.proofs.Desk.send.Reads as desk-send-contract
use Rattle.sequence.proofs.step_of.Kinds as index-step-types
use Rattle.sequence.proofs.step_of.Reads as index-step-contract
use Rattle.sequence.proofs.same.Kinds as same-types
use Rattle.sequence.proofs.same.Reads as same-contract
use Rattle.sequence.proofs.kind_of.Kinds as kind-of-types
use Rattle.sequence.proofs.kind_of.Reads as kind-of-contract
use Rattle.sequence.proofs.missed_of.Kinds as missed-of-types
use Rattle.sequence.proofs.missed_of.Reads as missed-of-contract
use Rattle.sequence.proofs.onsets.onsets.Kinds as onsets-types
use Rattle.sequence.proofs.onsets.onsets.Reads as onsets-contract
use Rattle.sequence.proofs.counts.repeats.Kinds as repeats-types
use Rattle.sequence.proofs.counts.repeats.Reads as repeats-contract
use Rattle.sequence.proofs.counts.conflicts.Kinds as conflicts-types
use Rattle.sequence.proofs.counts.conflicts.Reads as conflicts-contract
use Rattle.follower.proofs.Follower.open.Kinds as follower-open-types
use Rattle.follower.proofs.Follower.open.Reads as follower-open-contract
use Rattle.follower.proofs.Follower.follow.Kinds as follower-follow-types
use Rattle.follower.proofs.Follower.follow.Reads as follower-follow-contract
use Rattle.follower.proofs.Follower.shown.Kinds as follower-shown-types
use Rattle.follower.proofs.Follower.shown.Reads as follower-shown-contract
use Rattle.follower.proofs.Follower.shown_into.Kinds as follower-shown-into-types
use Rattle.follower.proofs.Follower.shown_into.Reads as follower-shown-into-contract
use Rattle.b40.proofs.pack.Kinds as pack-types
use Rattle.b40.proofs.pack.Reads as pack-contract
use Rattle.b40.proofs.unpack.Kinds as unpack-types
use Rattle.b40.proofs.unpack.Reads as unpack-contract
use Rattle.lines.proofs.show.Kinds as show-types
use Rattle.lines.proofs.show.Reads as show-contract
use Rattle.answers.proofs.AyAnswerFromResultUnitRefusal.from.Kinds as answer-checked-types
use Rattle.answers.proofs.AyAnswerFromResultUnitRefusal.from.Reads as answer-checked-contract
use Rattle.answers.proofs.AyAnswerFromRefusal.from.Kinds as answer-refusal-types
use Rattle.answers.proofs.AyAnswerFromRefusal.from.Reads as answer-refusal-contract
use Rattle.answers.proofs.AyWordFromRefusal.from.Kinds as answer-word-refusal-types
use Rattle.answers.proofs.AyWordFromRefusal.from.Reads as answer-word-refusal-contract
use Rattle.answers.proofs.AyWordFromResultOptionWrongRefusal.from.Kinds as answer-word-types
use Rattle.answers.proofs.AyWordFromResultOptionWrongRefusal.from.Reads as answer-word-contract
use Rattle.answers.proofs.AyVerdictFromResultBoolRefusal.from.Kinds as answer-verdict-types
use Rattle.answers.proofs.AyVerdictFromResultBoolRefusal.from.Reads as answer-verdict-contract
use Rattle.answers.proofs.AyPacketFromResultPacketRefusal.from.Kinds as answer-packet-types
use Rattle.answers.proofs.AyPacketFromResultPacketRefusal.from.Reads as answer-packet-contract
use Rattle.answers.proofs.AyRepairedFromResultU8Refusal.from.Kinds as answer-repaired-types
use Rattle.answers.proofs.AyRepairedFromResultU8Refusal.from.Reads as answer-repaired-contract
use Rattle.answers.proofs.AyFieldFromResultHeadRefusal.from.Kinds as answer-field-types
use Rattle.answers.proofs.AyFieldFromResultHeadRefusal.from.Reads as answer-field-contract
use Rattle.answers.proofs.AyTurnFromTurn.from.Kinds as answer-turn-types
use Rattle.answers.proofs.AyTurnFromTurn.from.Reads as answer-turn-contract
use Rattle.answers.proofs.AyFollowedFromFollowed.from.Kinds as answer-followed-types
use Rattle.answers.proofs.AyFollowedFromFollowed.from.Reads as answer-followed-contract
use Rattle.capi.proofs.ay_word_of.Kinds as ay-word-of-types
use Rattle.capi.proofs.ay_word_of.Reads as ay-word-of-contract
use Rattle.capi.proofs.ay_check_word.Kinds as ay-check-word-types
use Rattle.capi.proofs.ay_check_word.Reads as ay-check-word-contract
use Rattle.capi.proofs.ay_checksum.Kinds as ay-checksum-types
use Rattle.capi.proofs.ay_checksum.Reads as ay-checksum-contract
use Rattle.capi.proofs.ay_write_packet.Kinds as ay-write-packet-types
use Rattle.capi.proofs.ay_write_packet.Reads as ay-write-packet-contract
use Rattle.capi.proofs.ay_read_packet.Kinds as ay-read-packet-types
use Rattle.capi.proofs.ay_read_packet.Reads as ay-read-packet-contract
use Rattle.capi.proofs.ay_read_packet_into.Kinds as ay-read-packet-into-types
use Rattle.capi.proofs.ay_read_packet_into.Reads as ay-read-packet-into-contract
use Rattle.capi.proofs.ay_repair.Kinds as ay-repair-types
use Rattle.capi.proofs.ay_repair.Reads as ay-repair-contract
use Rattle.capi.proofs.ay_check_codeword.Kinds as ay-check-codeword-types
use Rattle.capi.proofs.ay_check_codeword.Reads as ay-check-codeword-contract
use Rattle.capi.proofs.ay_record_refusal.Kinds as ay-record-refusal-types
use Rattle.capi.proofs.ay_record_refusal.Reads as ay-record-refusal-contract
use Rattle.capi.proofs.ay_pack.Kinds as ay-pack-types
use Rattle.capi.proofs.ay_pack.Reads as ay-pack-contract
use Rattle.capi.proofs.ay_unpack.Kinds as ay-unpack-types
use Rattle.capi.proofs.ay_unpack.Reads as ay-unpack-contract
use Rattle.capi.proofs.ay_desk_open.Kinds as ay-desk-open-types
use Rattle.capi.proofs.ay_desk_open.Reads as ay-desk-open-contract
use Rattle.capi.proofs.ay_desk_edit.Kinds as ay-desk-edit-types
use Rattle.capi.proofs.ay_desk_edit.Reads as ay-desk-edit-contract
use Rattle.capi.proofs.ay_desk_undo.Kinds as ay-desk-undo-types
use Rattle.capi.proofs.ay_desk_undo.Reads as ay-desk-undo-contract
use Rattle.capi.proofs.ay_desk_send.Kinds as ay-desk-send-types
use Rattle.capi.proofs.ay_desk_send.Reads as ay-desk-send-contract
use Rattle.capi.proofs.ay_follower_open.Kinds as ay-follower-open-types
use Rattle.capi.proofs.ay_follower_open.Reads as ay-follower-open-contract
use Rattle.capi.proofs.ay_follower_follow.Kinds as ay-follower-follow-types
use Rattle.capi.proofs.ay_follower_follow.Reads as ay-follower-follow-contract
use Rattle.capi.proofs.ay_follower_shown.Kinds as ay-follower-shown-types
use Rattle.capi.proofs.ay_follower_shown.Reads as ay-follower-shown-contract

-- ---- refusal

pub number : OneAnswer 0 number-types.ps number-types.r number-contract.Learnt
number κs i a b s t p q = p ∙ sym q

pub bits : OneAnswer 0 bits-types.ps bits-types.r bits-contract.Learnt
bits κs i a b s t p q = p ∙ sym q

pub bits_in : OneAnswer 0 bits-in-types.ps bits-in-types.r bits-in-contract.Learnt
bits_in κs i a b s t p q = p ∙ sym q

pub plain : OneAnswer 0 plain-types.ps plain-types.r plain-contract.Learnt
plain κs i a b s t p q = p ∙ sym q

pub at : OneAnswer 0 at-types.ps at-types.r at-contract.Learnt
at κs i a b s t p q = p ∙ sym q

pub require : OneAnswer 0 require-types.ps require-types.r require-contract.Learnt
require κs i a b s t p q = p ∙ sym q

-- ---- anc

pub word_of : OneAnswer 0 word-of-types.ps word-of-types.r word-of-contract.Learnt
word_of κs i a b s t p q = p ∙ sym q

pub checksum : OneAnswer 1 checksum-types.ps checksum-types.r checksum-contract.Learnt
checksum κs i a b s t p q = p ∙ sym q

pub has-flag : OneAnswer 1 has-flag-types.ps has-flag-types.r has-flag-contract.Learnt
has-flag κs i a b s t p q = p ∙ sym q

pub narrow : OneAnswer 1 narrow-types.ps narrow-types.r narrow-contract.Learnt
narrow κs i a b s t p q = p ∙ sym q

pub low-bytes : OneOutcome 2 low-bytes-types.ps low-bytes-types.r (λ κs s. s.1.0.now) low-bytes-contract.Learnt
low-bytes κs i a b s t p q = (p.0 ∙ sym q.0, p.1 ∙ sym q.1)

pub sound-words : OneOutcome 2 sound-words-types.ps sound-words-types.r (λ κs s. s.1.0.now) sound-words-contract.Learnt
sound-words κs i a b s t p q = (p.0 ∙ sym q.0, p.1 ∙ sym q.1)

-- ---- soundness

pub check-word : OneAnswer 0 check-word-types.ps check-word-types.r check-word-contract.Learnt
check-word κs i a b s t p q = p ∙ sym q

pub check-words : OneAnswer 1 check-words-types.ps check-words-types.r check-words-contract.Learnt
check-words κs i a b s t p q = p ∙ sym q

-- ---- gf256

pub powers : OneAnswer 0 powers-types.ps powers-types.r powers-contract.Learnt
powers κs i a b s t p q = powers-unique a b p q

pub logs : OneAnswer 0 logs-types.ps logs-types.r logs-contract.Learnt
logs κs i a b s t p q = logs-unique a b p q

pub wheel : OneAnswer 0 wheel-types.ps wheel-types.r wheel-contract.Learnt
wheel κs i a b s t p q = wheel-unique a b p q

pub log-in : OneAnswer 1 log-in-types.ps log-in-types.r log-in-contract.Learnt
log-in κs i a b s t p q = p.0 ∙ sym q.0

pub product-in : OneAnswer 2 product-in-types.ps product-in-types.r product-in-contract.Learnt
product-in κs i a b s t p q = p ∙ sym q

pub quotient-in : OneAnswer 2 quotient-in-types.ps quotient-in-types.r quotient-in-contract.Learnt
quotient-in κs i a b s t p q = p ∙ sym q

pub sum : OneAnswer 0 sum-types.ps sum-types.r sum-contract.Learnt
sum κs i a b s t p q = p ∙ sym q

pub product : OneAnswer 0 product-types.ps product-types.r product-contract.Learnt
product κs i a b s t p q = p ∙ sym q

pub quotient : OneAnswer 0 quotient-types.ps quotient-types.r quotient-contract.Learnt
quotient κs i a b s t p q = p ∙ sym q

-- of the two tables that stand in the answer
pub tables-new : OneList 0 tables-new-types.ps tables-new-types.r (λ κs a. a.wheel) tables-new-contract.Learnt
tables-new κs i a b s t p q = wheel-unique a.wheel b.wheel p.0 q.0

pub tables-new-logs : OneList 0 tables-new-types.ps tables-new-types.r (λ κs a. a.logs) tables-new-contract.Learnt
tables-new-logs κs i a b s t p q = logs-unique a.logs b.logs p.1 q.1

pub tables-product : OneAnswer 1 tables-product-types.ps tables-product-types.r tables-product-contract.Learnt
tables-product κs i a b s t p q = p ∙ sym q

pub tables-quotient : OneAnswer 1 tables-quotient-types.ps tables-quotient-types.r tables-quotient-contract.Learnt
tables-quotient κs i a b s t p q = p ∙ sym q

pub tables-power : OneAnswer 1 tables-power-types.ps tables-power-types.r tables-power-contract.Learnt
tables-power κs i a b s t p q = p ∙ sym q

pub tables-wheel : OneList 1 tables-wheel-types.ps tables-wheel-types.r (λ κs a. a.now) tables-wheel-contract.Learnt
tables-wheel κs i a b s t p q = wheel-unique a.now b.now p q

-- no two powers of 2 below 255 are one byte, and none is 0
one-log : (a : ℕ) (x y : Given ℕ) → MatchOption x (a ≡ 0) (λ k. (k < 255) × (pow 2 k ≡ a)) → MatchOption y (a ≡ 0) (λ k. (k < 255) × (pow 2 k ≡ a)) → x ≡ y
one-log a None None p q = refl
one-log a None (Some k) p q = absurd (omega (arith, pow_pos k, q.1, p))
one-log a (Some j) None p q = absurd (omega (arith, pow_pos j, p.1, q))
one-log a (Some j) (Some k) p q = ap Some (pow-inj j k p.0 q.0 (p.1 ∙ sym q.1))

pub tables-log : OneAnswer 1 tables-log-types.ps tables-log-types.r tables-log-contract.Learnt
tables-log κs i a b s t p q = one-log _ a b p q

-- ---- rs

pub divisor : OneAnswer 0 divisor-types.ps divisor-types.r divisor-contract.Learnt
divisor κs i a b s t p q = p ∙ sym q

pub parity : OneAnswer 1 parity-types.ps parity-types.r parity-contract.Learnt
parity κs i a b s t p q = p ∙ sym q

pub remainder : OneAnswer 1 remainder-types.ps remainder-types.r remainder-contract.Learnt
remainder κs i a b s t p q = p ∙ sym q

pub check-codeword : OneAnswer 1 check-codeword-types.ps check-codeword-types.r check-codeword-contract.Learnt
check-codeword κs i a b s t p q = p ∙ sym q

-- ---- search

pub search-repair : OneOutcome 1 search-repair-types.ps search-repair-types.r (λ κs s. s.0.now) search-repair-contract.Learnt
search-repair κs i a b s t p q = (p.0 ∙ sym q.0, p.1 ∙ sym q.1)

pub repair-marked : OneOutcome 2 repair-marked-types.ps repair-marked-types.r (λ κs s. s.0.now) repair-marked-contract.Learnt
repair-marked κs i a b s t p q = (p.0 ∙ sym q.0, p.1 ∙ sym q.1)

-- ---- plain

pub plain-repair : OneOutcome 1 plain-repair-types.ps plain-repair-types.r (λ κs s. s.0.now) plain-repair-contract.Learnt
plain-repair κs i a b s t p q = (p.0 ∙ sym q.0, p.1 ∙ sym q.1)

-- the two repairers agree
pub repairers-agree : SameOutcome 1 search-repair-types.ps search-repair-types.r (λ κs s. s.0.now) search-repair-contract.Learnt plain-repair-contract.Learnt
repairers-agree κs i a b s t p q = (p.0 ∙ sym q.0, p.1 ∙ sym q.1)

-- ---- rules

pub station : OneAnswer 1 station-types.ps station-types.r station-contract.Learnt
station κs i a b s t p q = p ∙ sym q

pub time : OneAnswer 0 time-types.ps time-types.r time-contract.Learnt
time κs i a b s t p q = p ∙ sym q

pub picture : OneAnswer 0 picture-types.ps picture-types.r picture-contract.Learnt
picture κs i a b s t p q = p ∙ sym q

pub picture-clean : OneAnswer 0 picture-clean-types.ps picture-clean-types.r picture-clean-contract.Learnt
picture-clean κs i a b s t p q = p ∙ sym q

pub sound-byte : OneAnswer 0 sound-byte-types.ps sound-byte-types.r sound-byte-contract.Learnt
sound-byte κs i a b s t p q = p ∙ sym q

-- ---- items

pub item-place : OneAnswer 0 item-place-types.ps item-place-types.r item-place-contract.Learnt
item-place κs i a b s t p q = p.0 ∙ sym q.0

pub item-refusal : OneAnswer 1 item-refusal-types.ps item-refusal-types.r item-refusal-contract.Learnt
item-refusal κs i a b s t p q = p ∙ sym q

pub is-picture : OneAnswer 0 is-picture-types.ps is-picture-types.r is-picture-contract.Learnt
is-picture κs i a b s t p q = p ∙ sym q

-- ---- record

pub record-refusal : OneAnswer 1 record-refusal-types.ps record-refusal-types.r record-refusal-contract.Learnt
record-refusal κs i a b s t p q = p ∙ sym q

pub write-record : OneOutcome 2 write-record-types.ps write-record-types.r (λ κs s. s.1.0.now) write-record-contract.Learnt
write-record κs i a b s t p q = (p.0 ∙ sym q.0, p.1 ∙ sym q.1)

pub private-part : OnePart 1 private-part-types.ps private-part-types.r (λ κs a. a.now) (λ κs a. a.ref_ptr) private-part-contract.Learnt
private-part κs i a b s t p q = (p.0 ∙ sym q.0, p.1 ∙ sym q.1)

pub item-part : OnePart 1 item-part-types.ps item-part-types.r (λ κs a. a.now) (λ κs a. a.ref_ptr) item-part-contract.Learnt
item-part κs i a b s t p q = (p.0 ∙ sym q.0, p.1 ∙ sym q.1)

pub put_item : OneOutcome 2 put-item-types.ps put-item-types.r (λ κs s. s.1.1.0.now) put-item-contract.Learnt
put_item κs i a b s t p q = (p.0 ∙ sym q.0, p.1 ∙ sym q.1)

pub store-item : OneOutcome 2 store-item-types.ps store-item-types.r (λ κs s. s.1.1.0.now) store-item-contract.Learnt
store-item κs i a b s t p q = (p.0 ∙ sym q.0, p.1 ∙ sym q.1)

-- ---- view

pub read-record : OneAnswer 1 read-record-types.ps read-record-types.r read-record-contract.Learnt
read-record κs i a b s t p q = p ∙ sym q

-- ---- repair, writing and reading

pub packet-repair : OneOutcome 2 packet-repair-types.ps packet-repair-types.r (λ κs s. s.1.0.now) packet-repair-contract.Learnt
packet-repair κs i a b s t p q = (p.0 ∙ sym q.0, p.1 ∙ sym q.1)

pub count-fixed : OneAnswer 2 count-fixed-types.ps count-fixed-types.r count-fixed-contract.Learnt
count-fixed κs i a b s t p q = p ∙ sym q

pub write-packet : OneOutcome 2 write-packet-types.ps write-packet-types.r (λ κs s. s.1.1.1.0.now) write-packet-contract.Learnt
write-packet κs i a b s t p q = (p.0 ∙ sym q.0, p.1 ∙ sym q.1)

pub write-layout : OneOutcome 2 write-layout-types.ps write-layout-types.r (λ κs s. s.1.1.1.0.now) write-layout-contract.Learnt
write-layout κs i a b s t p q = (p.0 ∙ sym q.0, p.1 ∙ sym q.1)

pub read-packet : OneAnswer 1 read-packet-types.ps read-packet-types.r read-packet-contract.Learnt
read-packet κs i a b s t p q = p ∙ sym q

pub read-packet-into : OneOutcome 2 read-packet-into-types.ps read-packet-into-types.r (λ κs s. s.1.0.now) read-packet-into-contract.Learnt
read-packet-into κs i a b s t p q = (p.0 ∙ sym q.0, p.1 ∙ sym q.1)

-- ---- steps

pub held : OneAnswer 0 held_types.ps held_types.r held-contract.Learnt
held κs i a b s t p q = p.0 ∙ sym q.0

pub count-on : OneAnswer 0 count-on-types.ps count-on-types.r count-on-contract.Learnt
count-on κs i a b s t p q = p ∙ sym q

pub history-step : OneAnswer 1 history-step-types.ps history-step-types.r history-step-contract.Learnt
history-step κs i a b s t p q = p ∙ sym q

pub push : OneAnswer 0 push-types.ps push-types.r push-contract.Learnt
push κs i a b s t p q = p ∙ sym q

pub put_back : OneOutcome 1 put-back-types.ps put-back-types.r (λ κs s. s.1.0.now) put-back-contract.Learnt
put_back κs i a b s t p q = (p.0 ∙ sym q.0, p.1 ∙ sym q.1)

-- ---- desk

pub desk-open : OneAnswer 0 desk-open-types.ps desk-open-types.r desk-open-contract.Learnt
desk-open κs i a b s t p q = p ∙ sym q

pub desk-edit : OneAnswer 1 desk-edit-types.ps desk-edit-types.r desk-edit-contract.Learnt
desk-edit κs i a b s t p q = p ∙ sym q

pub desk-undo : OneAnswer 0 desk-undo-types.ps desk-undo-types.r desk-undo-contract.Learnt
desk-undo κs i a b s t p q = p ∙ sym q

pub desk-send : OneOutcome 1 desk-send-types.ps desk-send-types.r (λ κs s. s.1.0.now) desk-send-contract.Learnt
desk-send κs i a b s t p q = (p.0 ∙ sym q.0, p.1 ∙ sym q.1)

-- ---- sequence

pub index-step : OneAnswer 0 index-step-types.ps index-step-types.r index-step-contract.Learnt
index-step κs i a b s t p q = p ∙ sym q

pub same : OneAnswer 2 same-types.ps same-types.r same-contract.Learnt
same κs i a b s t p q = p ∙ sym q

pub kind-of : OneAnswer 0 kind-of-types.ps kind-of-types.r kind-of-contract.Learnt
kind-of κs i a b s t p q = p ∙ sym q

pub missed-of : OneAnswer 0 missed-of-types.ps missed-of-types.r missed-of-contract.Learnt
missed-of κs i a b s t p q = p ∙ sym q

pub onsets : OneAnswer 2 onsets-types.ps onsets-types.r onsets-contract.Learnt
onsets κs i a b s t p q = p ∙ sym q

pub repeats : OneAnswer 0 repeats-types.ps repeats-types.r repeats-contract.Learnt
repeats κs i a b s t p q = p ∙ sym q

pub conflicts : OneAnswer 0 conflicts-types.ps conflicts-types.r conflicts-contract.Learnt
conflicts κs i a b s t p q = p ∙ sym q

-- ---- follower

pub follower-open : OneAnswer 0 follower-open-types.ps follower-open-types.r follower-open-contract.Learnt
follower-open κs i a b s t p q = p ∙ sym q

pub follower-follow : OneAnswer 1 follower-follow-types.ps follower-follow-types.r follower-follow-contract.Learnt
follower-follow κs i a b s t p q = p ∙ sym q

pub follower-shown : OneAnswer 0 follower-shown-types.ps follower-shown-types.r follower-shown-contract.Learnt
follower-shown κs i a b s t p q = p ∙ sym q

pub follower-shown-into : OneOutcome 1 follower-shown-into-types.ps follower-shown-into-types.r (λ κs s. s.1.0.now) follower-shown-into-contract.Learnt
follower-shown-into κs i a b s t p q = (p.0 ∙ sym q.0, p.1 ∙ sym q.1)

-- ---- b40

pub pack : OneOutcome 2 pack-types.ps pack-types.r (λ κs s. s.1.1.1.1.0.now) pack-contract.Learnt
pack κs i a b s t p q = (p.0 ∙ sym q.0, p.1 ∙ sym q.1)

pub unpack : OneOutcome 2 unpack-types.ps unpack-types.r (λ κs s. s.1.0.now) unpack-contract.Learnt
unpack κs i a b s t p q = (p.0 ∙ sym q.0, p.1 ∙ sym q.1)

-- ---- lines

pub show : OneAnswer 1 show-types.ps show-types.r show-contract.Learnt
show κs i a b s t p q = p.0 ∙ sym q.0

-- ---- answers

pub answer-checked : OneAnswer 0 answer-checked-types.ps answer-checked-types.r answer-checked-contract.Learnt
answer-checked κs i a b s t p q = p ∙ sym q

pub answer-refusal : OneAnswer 0 answer-refusal-types.ps answer-refusal-types.r answer-refusal-contract.Learnt
answer-refusal κs i a b s t p q = p ∙ sym q

pub answer-word-refusal : OneAnswer 0 answer-word-refusal-types.ps answer-word-refusal-types.r answer-word-refusal-contract.Learnt
answer-word-refusal κs i a b s t p q = p ∙ sym q

pub answer_word : OneAnswer 0 answer-word-types.ps answer-word-types.r answer-word-contract.Learnt
answer_word κs i a b s t p q = p ∙ sym q

pub answer-verdict : OneAnswer 0 answer-verdict-types.ps answer-verdict-types.r answer-verdict-contract.Learnt
answer-verdict κs i a b s t p q = p ∙ sym q

pub answer-packet : OneAnswer 0 answer-packet-types.ps answer-packet-types.r answer-packet-contract.Learnt
answer-packet κs i a b s t p q = p ∙ sym q

pub answer-repaired : OneAnswer 0 answer-repaired-types.ps answer-repaired-types.r answer-repaired-contract.Learnt
answer-repaired κs i a b s t p q = p ∙ sym q

pub answer-field : OneAnswer 0 answer-field-types.ps answer-field-types.r answer-field-contract.Learnt
answer-field κs i a b s t p q = p ∙ sym q

pub answer-turn : OneAnswer 0 answer-turn-types.ps answer-turn-types.r answer-turn-contract.Learnt
answer-turn κs i a b s t p q = p ∙ sym q

pub answer-followed : OneAnswer 0 answer-followed-types.ps answer-followed-types.r answer-followed-contract.Learnt
answer-followed κs i a b s t p q = p ∙ sym q

-- ---- capi

pub ay-word-of : OneAnswer 0 ay-word-of-types.ps ay-word-of-types.r ay-word-of-contract.Learnt
ay-word-of κs i a b s t p q = p ∙ sym q

pub ay-check-word : OneAnswer 0 ay-check-word-types.ps ay-check-word-types.r ay-check-word-contract.Learnt
ay-check-word κs i a b s t p q = p ∙ sym q

pub ay-checksum : OneAnswer 1 ay-checksum-types.ps ay-checksum-types.r ay-checksum-contract.Learnt
ay-checksum κs i a b s t p q = p ∙ sym q

pub ay-write-packet : OneOutcome 2 ay-write-packet-types.ps ay-write-packet-types.r (λ κs s. s.1.1.1.0.now) ay-write-packet-contract.Learnt
ay-write-packet κs i a b s t p q = (p.0 ∙ sym q.0, p.1 ∙ sym q.1)

pub ay-read-packet : OneAnswer 1 ay-read-packet-types.ps ay-read-packet-types.r ay-read-packet-contract.Learnt
ay-read-packet κs i a b s t p q = p ∙ sym q

pub ay-read-packet-into : OneOutcome 2 ay-read-packet-into-types.ps ay-read-packet-into-types.r (λ κs s. s.1.0.now) ay-read-packet-into-contract.Learnt
ay-read-packet-into κs i a b s t p q = (p.0 ∙ sym q.0, p.1 ∙ sym q.1)

pub ay-repair : OneOutcome 2 ay-repair-types.ps ay-repair-types.r (λ κs s. s.1.0.now) ay-repair-contract.Learnt
ay-repair κs i a b s t p q = (p.0 ∙ sym q.0, p.1 ∙ sym q.1)

pub ay-check-codeword : OneAnswer 1 ay-check-codeword-types.ps ay-check-codeword-types.r ay-check-codeword-contract.Learnt
ay-check-codeword κs i a b s t p q = p ∙ sym q

pub ay-record-refusal : OneAnswer 1 ay-record-refusal-types.ps ay-record-refusal-types.r ay-record-refusal-contract.Learnt
ay-record-refusal κs i a b s t p q = p ∙ sym q

pub ay-pack : OneOutcome 2 ay-pack-types.ps ay-pack-types.r (λ κs s. s.1.1.1.1.0.now) ay-pack-contract.Learnt
ay-pack κs i a b s t p q = (p.0 ∙ sym q.0, p.1 ∙ sym q.1)

pub ay-unpack : OneOutcome 2 ay-unpack-types.ps ay-unpack-types.r (λ κs s. s.1.0.now) ay-unpack-contract.Learnt
ay-unpack κs i a b s t p q = (p.0 ∙ sym q.0, p.1 ∙ sym q.1)

pub ay-desk-open : OneAnswer 0 ay-desk-open-types.ps ay-desk-open-types.r ay-desk-open-contract.Learnt
ay-desk-open κs i a b s t p q = p ∙ sym q

pub ay-desk-edit : OneAnswer 1 ay-desk-edit-types.ps ay-desk-edit-types.r ay-desk-edit-contract.Learnt
ay-desk-edit κs i a b s t p q = p ∙ sym q

pub ay-desk-undo : OneAnswer 0 ay-desk-undo-types.ps ay-desk-undo-types.r ay-desk-undo-contract.Learnt
ay-desk-undo κs i a b s t p q = p ∙ sym q

pub ay-desk-send : OneOutcome 1 ay-desk-send-types.ps ay-desk-send-types.r (λ κs s. s.1.0.now) ay-desk-send-contract.Learnt
ay-desk-send κs i a b s t p q = (p.0 ∙ sym q.0, p.1 ∙ sym q.1)

pub ay-follower-open : OneAnswer 0 ay-follower-open-types.ps ay-follower-open-types.r ay-follower-open-contract.Learnt
ay-follower-open κs i a b s t p q = p ∙ sym q

pub ay-follower-follow : OneAnswer 1 ay-follower-follow-types.ps ay-follower-follow-types.r ay-follower-follow-contract.Learnt
ay-follower-follow κs i a b s t p q = p ∙ sym q

pub ay-follower-shown : OneOutcome 1 ay-follower-shown-types.ps ay-follower-shown-types.r (λ κs s. s.1.0.now) ay-follower-shown-contract.Learnt
ay-follower-shown κs i a b s t p q = (p.0 ∙ sym q.0, p.1 ∙ sym q.1)
