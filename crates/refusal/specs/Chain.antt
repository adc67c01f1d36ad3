-- How the checks of a call follow one another: each has its refusal, and only where it passes does the next one run.
-- Assumes nothing.
use Rattle.std.specs.Prelude.{Bool, true, false}
use Rattle.std.proofs.Math.Option.{Option, none, some}
use Rattle.refusal.specs.declared.Refusal.{Refusal}

-- where the check passes the rest decides, else the refusal is given
abbrev pub require : Bool → Refusal → Option Refusal → Option Refusal
require true no' rest = rest
require false no' rest = some no'

-- no check is left
abbrev pub passed : Option Refusal
passed = none

-- where the first checks pass the rest decides, else their refusal stands
abbrev pub next : Option Refusal → Option Refusal → Option Refusal
next none rest = rest
next (some no') rest = some no'

-- what passed checks leave, or what stands where they refuse
abbrev pub left_by : {X : Type 0} → Option Refusal → X → X → X
left_by none new old = new
left_by (some no') new old = old
