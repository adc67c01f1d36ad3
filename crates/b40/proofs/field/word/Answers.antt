-- `b40::field::word` meets its contract: ten bits within two neighbouring bytes.
-- Assumes nothing.
use mathlib.Core.Path.{sym}
use Prim.Native.Nat.{◌-◌}
use native.Mathlib.Omega.{arith}
use borrow.Author.Rules.{rules}
use Rattle.b40.specs.Field.{bits_of, part}
use Rattle.basics.proofs.Laws.Below.{at-below}
use Rattle.b40.proofs.Laws.Window.{pair}
use Rattle.b40.proofs.field.word.Goals as goal

pub returns : goal.returns
unfolding part bits_of
returns c =
    let f = c.args.field.now in
    let bytes = at-below 256 f (λ i. search rules) in
    rw (c.from.ensures, c.from-2.ensures) (sym (pair 8 f bytes c.args.k c.args.from 10 (6 - c.args.from) (search rules) (omega arith)))
