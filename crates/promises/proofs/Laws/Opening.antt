-- A desk is opened with correction on only.
-- Assumes nothing.
use mathlib.Core.Path.{sym, ap, ◌∙◌}
use mathlib.Core.Bool.{true, false}
use Rattle.desk.specs.declared.Turn.{Turn}
use Rattle.desk.specs.Desk.{open_refusal, opened}
use Rattle.promises.specs.Calls.{Opens}
use Rattle.promises.specs.Opening.{OnlyOn}
use Rattle.promises.proofs.Laws.Calls.{opens-is}

pub only-on : (on off : Turn) → Opens true on → Opens false off → OnlyOn on off
unfolding opened open_refusal
only-on on off O F = record {
  done = ap (λ (t : Turn). t.checked) (opens-is true on O);
  refused = ap (λ (t : Turn). t.checked) (opens-is false off F);
  same = ap (λ (t : Turn). t.desk) (opens-is false off F) ∙ sym (ap (λ (t : Turn). t.desk) (opens-is true on O));
}
