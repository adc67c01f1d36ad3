-- `b40::field::first` meets its contract: 32 bits within four bytes.
-- Assumes nothing.
use mathlib.Core.Path.{◌∙◌}
use borrow.Author.Rules.{rules}
use Rattle.basics.proofs.Laws.Below.{at-below}
use Rattle.b40.proofs.Laws.Places.{first-bytes}
use Rattle.b40.proofs.field.first.Goals as goal

pub returns : goal.returns
returns c =
    let f = c.args.field.now in
    c.from_be_bytes.ensures ∙ first-bytes f (at-below 256 f c.fits-field) (search rules)
