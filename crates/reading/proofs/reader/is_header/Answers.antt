-- `reading::reader::is_header` meets its contract: only where the word check answers that the word is sound are its bits looked at.
-- Assumes nothing.
use mathlib.Core.Path.{◌≡◌, sym, ap, ◌∙◌}
use mathlib.Core.Bool.{Bool, false, ◌&&◌}
use mathlib.Core.Option.{some-ne-none}
use Prim.Native.Nat.{ℕ, ◌/◌, ◌%◌}
use lib.Dec.{eqb}
use Rattle.std.specs.Prelude.{Ok, Err, Some}
use Rattle.refusal.specs.Checked.{refusal_in}
use Rattle.refusal.specs.declared.Refusal.{Refusal}
use Rattle.refusal.specs.declared.Wrong.{Wrong}
use Rattle.soundness.specs.Check.{soundness_of, wrong_in}
use Rattle.soundness.proofs.Laws.Check.{checked-sound, not_sound}
use Rattle.reading.specs.Reading.{is_header}
use Rattle.reading.proofs.reader.is_header.Goals as goal

-- by what the check of a word answered
module _ (w : ℕ) where
  abbrev bits : Bool → Bool
  bits sound = sound && eqb (w / 16 % 8) 0

  unsound : (wrong : Wrong) → soundness_of w ≡ Ok (Some wrong) → false ≡ is_header w
  unsound wrong e = sym (ap bits (not_sound w (λ s. some-ne-none wrong (ap wrong_in (sym e ∙ s)))))

  refused : (why : Refusal) → soundness_of w ≡ Err why → false ≡ is_header w
  refused why e = sym (ap bits (not_sound w (λ s. some-ne-none why (ap refusal_in (sym e ∙ s)))))

pub returns-in-Ok-None : goal.returns-in-Ok-None
returns-in-Ok-None c = sym (ap (bits c.args.word) (checked-sound _ (sym c.check_word.ensures ∙ c.in-Ok-None.is ∙ ap Ok c.in-Ok-None.field-0-is)))

pub returns-in-Ok-Some : goal.returns-in-Ok-Some
returns-in-Ok-Some c = unsound c.args.word _ (sym c.check_word.ensures ∙ c.in-Ok-Some.is ∙ ap Ok c.in-Ok-Some.field-0-is)

pub returns-in-Err : goal.returns-in-Err
returns-in-Err c = refused c.args.word _ (sym c.check_word.ensures ∙ c.in-Err.is)
