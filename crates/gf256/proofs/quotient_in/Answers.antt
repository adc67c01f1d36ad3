-- `gf256::quotient_in` meets its contract.
-- Assumes nothing.
use mathlib.Core.Path.{sym}
use Rattle.gf256.proofs.Laws.Lent.{quotient-zero, quotient-pos}
use native.Mathlib.Omega.{arith}
use borrow.Author.Rules.{rules}
use Rattle.gf256.proofs.quotient_in.Goals as goal

pub returns-then-b-eq0 : goal.returns-then-b-eq0
returns-then-b-eq0 c = rw c.if-b-eq0.true (sym (quotient-zero _ _ _))

pub returns : goal.returns
returns c = rw (quotient-pos c.args.wheel.now c.args.logs.now c.args.a c.args.b (omega arith)) (search rules)
