-- `gf256::log_in` meets its contract.
-- Assumes nothing.
use Rattle.gf256.proofs.Laws.Lent.{log-zero, log-of}
use native.Mathlib.Omega.{arith}
use borrow.Author.Rules.{rules}
use Rattle.gf256.proofs.log_in.Goals as goal

pub returns-then-a-eq0 : goal.returns-then-a-eq0
returns-then-a-eq0 c = rw (c.if-a-eq0.true, log-zero) (search rules)

pub returns : goal.returns
returns c = rw (log-of c.args.logs.now c.args.a (omega arith)) (search rules)
