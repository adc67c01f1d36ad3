-- `plain::solver::values` meets its contract.
-- Assumes nothing.
use borrow.Author.Rules.{rules}
use mathlib.Core.Path.{sym, ap}
use Rattle.plain.specs.Plain.{values_of}
use Rattle.plain.proofs.Laws.Judge.{three-are}
use Rattle.plain.proofs.solver.values.Goals as goal

pub returns : goal.returns
returns c = sym (ap values_of (three-are c.args.errors _ _ _ (search rules)))
