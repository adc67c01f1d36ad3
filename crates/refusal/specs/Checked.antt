-- What a call answers that can be refused: a value, or the refusal. A check has no value to give.
-- Assumes nothing.
use Rattle.std.specs.Prelude.{Result, Ok, Err}
use Rattle.std.proofs.Math.Option.{Option, none, some}
use Rattle.refusal.specs.declared.Refusal.{Refusal}

-- the answer: the value where nothing is refused
abbrev pub answer_of : {A : Type 0} → Option Refusal → A → Result A Refusal
answer_of none x = Ok x
answer_of (some no') x = Err no'

-- what a check answers
abbrev pub Checked : Type 0
Checked = Result (Unit {0}) Refusal

-- the answer of a check: no refusal has passed
abbrev pub checked_of : Option Refusal → Checked
checked_of none = Ok tt
checked_of (some no') = Err no'

-- the refusal, with its number and place, that an answer gives
abbrev pub refusal_in : {A : Type 0} → Result A Refusal → Option Refusal
refusal_in (Ok x) = none
refusal_in (Err no') = some no'
