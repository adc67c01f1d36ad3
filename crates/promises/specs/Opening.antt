-- What is promised of an opening: a desk sends with correction on only.
-- Assumes nothing.
use Rattle.std.specs.Prelude.{◌≡◌, Ok, Err}
use Rattle.refusal.specs.Number.{refusal_plain}
use Rattle.refusal.specs.declared.Reason.TheVariants.{OffRetired}
use Rattle.desk.specs.declared.Turn.{Turn}

-- what is answered where correction on is asked for, and where off is: the one is done, the other is refused with 41, place 0, and the desk beside the
-- refusal is the one that is opened with correction on
pub record OnlyOn (on off : Turn) : Type 0 where
  pub done : on.checked ≡ Ok tt
  pub refused : off.checked ≡ Err (refusal_plain OffRetired)
  pub same : off.desk ≡ on.desk
