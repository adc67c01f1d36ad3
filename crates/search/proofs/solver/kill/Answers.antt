-- `search::solver::kill` meets its contract: a sum at a time.
-- Assumes nothing.
use native.Mathlib.Omega.{arith}
use borrow.Author.Rules.{rules}
use Rattle.search.proofs.Laws.Moment.{leaving-none, leaving-more, leaving-all}
use Rattle.search.proofs.solver.kill.Goals as goal

pub loop-j-init : goal.loop-j-init
loop-j-init c = leaving-none c.args.x c.args.s.now (search rules)

pub loop-j-preserved : goal.loop-j-preserved
loop-j-preserved c =
    let l = c.loop-j in
    leaving-more c.args.x c.args.s.now l.s l.j _ c.loop-j-test.true l.invariant c.plus_times.ensures

pub returns : goal.returns
returns c = let l = c.loop-j in leaving-all c.args.x c.args.s.now l.s l.j (omega arith) l.invariant
