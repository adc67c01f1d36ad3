-- `reading::read_packet_into` meets its contract: the record is written where there is a packet and room.
-- Assumes nothing.
use mathlib.Core.Path.{◌≡◌, ap, ◌∙◌}
use mathlib.Core.List.{List}
use Prim.Native.Nat.{ℕ}
use native.Mathlib.Omega.{arith}
use lib.ListN.{length, take}
use lib.Seq.{length-take-le}
use Rattle.std.proofs.lemmas.Result.{MatchResult-at_ok}
use Rattle.refusal.proofs.Laws.Chain.{handed-on}
use Rattle.record.specs.Record.{record_of}
use Rattle.reading.specs.Reading.{correction_of, protected_of, read_record}
use Rattle.reading.specs.Answer.{guard_bytes}
use Rattle.reading.proofs.Laws.Answer.{answer-long, answer-room, answer-bytes, data-guard, into-full, into-accepted, left-written, into-refused, left-as-it-was}
use Rattle.reading.proofs.read_packet_into.Goals as goal

-- what is written is the record of 248 bytes, and that is the record that is read
module _ (ws bytes : List ℕ) (n : length bytes ≡ 254) (e : bytes ≡ guard_bytes (correction_of ws) (protected_of ws)) where
  long : length (take 248 bytes) ≡ 248
  long = length-take-le 248 bytes (omega arith)

  is_read : record_of (take 248 bytes) ≡ read_record ws
  unfolding read_record
  is_read = ap record_of (ap (take 248) e ∙ data-guard ws)

pub returns-in_err-check : goal.returns-in_err-check
returns-in_err-check c =
    let out = c.args.out.now in
    let check = c.check.ensures in
    let told = c.in_err-check.was in
    (handed-on _ c.from_residual.ensures.1 ∙ into-refused _ _ check.0 out _ told, left-as-it-was _ _ check.0 out _ told)

pub returns-in_err-write_record : goal.returns-in_err-write_record
returns-in_err-write_record c =
    let ws = c.args.words.now in
    let check = c.check.ensures in
    let told = c.in_ok-check.was in
    let bytes = answer-bytes ws _ check.0 _ _ told check.1 in
    let room = answer-room ws _ check.0 _ told bytes in (
      handed-on _ c.from_residual-in_err-write_record.ensures.1
          ∙ into-full ws _ check.0 _ c.args.out.now (long ws _ room bytes) told _ c.write_record.ensures.0 _ c.in_err-write_record.was,
      c.write_record.ensures.1 ∙ left-written ws _ check.0 _ c.args.out.now (long ws _ room bytes) told (is_read ws _ room bytes),
    )

pub unwrap-requires : goal.unwrap-requires
unwrap-requires c = c.try_into.ensures.0 (answer-long _ _ c.check.ensures.0 c.in_ok-check.was)

pub returns : goal.returns
returns c =
    let ws = c.args.words.now in
    let check = c.check.ensures in
    let told = c.in_ok-check.was in
    let bytes = answer-bytes ws _ check.0 _ _ told check.1 in
    let whole = MatchResult-at_ok _ _ _ c.unwrap.ensures c.try_into.ensures.1 in
    let room = answer-room ws _ check.0 _ told bytes in (
      into-accepted ws _ check.0 _ c.args.out.now (long ws _ room bytes) told _ c.write_record.ensures.0 _ _ c.in_ok-write_record.was bytes (rw whole.same at c.packet.ensures),
      c.write_record.ensures.1 ∙ left-written ws _ check.0 _ c.args.out.now (long ws _ room bytes) told (is_read ws _ room bytes),
    )
