-- `rs::division::divided` meets its contract: a turn of the state is the parity of the bytes so far.
-- Assumes nothing.
use mathlib.Core.Path.{◌≡◌}
use lib.ListN.{take}
use Rattle.rs.specs.Codeword.{divisor_bytes, parity_of}
use Rattle.rs.specs.Packed.{pack, turn}
use Rattle.rs.proofs.division.divided.Given as goal

abbrev pub invariant-loop-byte : goal.invariant-loop-byte
invariant-loop-byte l = turn divisor_bytes l.state ≡ pack (parity_of (take l.byte-index l.bytes))
