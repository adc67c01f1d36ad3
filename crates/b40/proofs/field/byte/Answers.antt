-- `b40::field::byte` meets its contract: eight bits within two neighbouring words of ten.
-- Assumes nothing.
use mathlib.Core.Path.{sym}
use Prim.Native.Nat.{◌-◌}
use native.Mathlib.Omega.{arith}
use borrow.Author.Rules.{rules}
use Rattle.anc.proofs.Laws.Words.{narrow_below}
use Rattle.b40.proofs.Laws.Window.{pair}
use Rattle.b40.proofs.field.byte.Goals as goal

pub returns : goal.returns
returns c =
    let w = c.args.words.now in
    rw (c.from.ensures, c.from-2.ensures) (sym (pair 10 w (narrow_below w c.requires.0) c.args.k c.args.from 8 (12 - c.args.from) (search rules) (omega arith)))
