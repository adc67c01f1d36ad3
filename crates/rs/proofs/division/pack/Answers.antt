-- `rs::division::pack` meets its contract: each byte is worth its power of 256.
-- Assumes nothing.
use borrow.Author.Rules.{rules}
use native.Mathlib.Omega.{arith}
use Rattle.rs.proofs.Laws.Packed.{pack-six}
use Rattle.rs.proofs.division.pack.Goals as goal

pub returns : goal.returns
returns c = omega (arith, c.from_le_bytes.ensures, pack-six c.args.g (search rules))
