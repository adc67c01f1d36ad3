-- `record::write_record` meets its contract: the record is the bytes with the two picture modes and the zeros written over them.
-- Assumes nothing.
use mathlib.Core.Path.{◌≡◌, sym, ap, ◌∙◌}
use Prim.Native.Nat.{ℕ}
use Rattle.std.proofs.Common.{rules}
use native.Mathlib.Omega.{arith}
use lib.ListN.{length, replicate}
use Rattle.refusal.specs.Checked.{checked_of}
use Rattle.rules.specs.Rules.{picture_clean}
use Rattle.record.proofs.Laws.Record.{record-fits, record-written}
use Rattle.record.proofs.write_record.Goals as goal

pub returns : goal.returns
returns c =
    let a = c.args in
    let h : length a.bytes.now ≡ 248 = grind arith in
    let o : length a.out.now ≡ 248 = grind arith in
    let long : length c.fill.new.self ≡ 64 = omega arith in
    let zeros : c.fill.new.self ≡ replicate 64 0 = c.fill.ensures.after (λ y e. e) ∙ ap (λ (n : ℕ). replicate n 0) (sym c.fill.ensures.len ∙ long) in (
      sym (ap checked_of (record-fits a.bytes.now a.out.now h o)),
      record-written a.bytes.now a.out.now h o _ _ _ _
          c.copy_from_slice.ensures.after
          (c.copy_from_slice-2.ensures.after ∙ c.picture_clean-current.ensures ∙ ap picture_clean (search rules))
          (c.copy_from_slice-3.ensures.after ∙ c.picture_clean-next.ensures ∙ ap picture_clean (search rules))
          zeros,
    )
