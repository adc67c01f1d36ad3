-- `lines::accepted` meets its contract: what unpacking and reading answered and left says what is printed.
-- Assumes nothing.
use mathlib.Core.Path.{◌∙◌}
use Rattle.refusal.proofs.Laws.Chain.{handed-on}
use Rattle.lines.proofs.Laws.Shown.{unpack-refused, read-refused, read-accepted}
use Rattle.lines.proofs.accepted.Goals as goal

pub returns-in_err-head : goal.returns-in_err-head
returns-in_err-head c =
    let unpacked = c.in_err-head.ensures in
    handed-on _ c.from_residual.ensures.1 ∙ unpack-refused _ _ unpacked.0

pub returns-in_err-packet : goal.returns-in_err-packet
returns-in_err-packet c =
    let unpacked = c.in_ok-head.ensures in
    let read = c.in_err-packet.ensures in
    handed-on _ c.from_residual-in_err-packet.ensures.1 ∙ read-refused _ _ _ unpacked.0 unpacked.1 _ read.0

pub returns : goal.returns
returns c =
    let unpacked = c.in_ok-head.ensures in
    let read = c.in_ok-packet.ensures in
    read-accepted _ _ _ unpacked.0 unpacked.1 _ _ _ _ _ read.0 read.1 (rw c.blank-page.ensures at c.write_field.ensures) c.write_packet.ensures c.write_items.ensures
