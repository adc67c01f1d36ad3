-- `b40::field::fill_bytes` meets its contract. The loop's invariant: the places of the first `i` groups of five are filled with runs of eight bits.
-- Assumes nothing.
use mathlib.Core.Path.{◌≡◌}
use Prim.Native.Nat.{◌*◌}
use lib.ListN.{length}
use Rattle.basics.proofs.Laws.Parts.{filled}
use Rattle.b40.specs.Field.{bits_each, numbers}
use Rattle.b40.proofs.field.fill_bytes.Given as goal

abbrev pub invariant-loop-i : goal.invariant-loop-i
invariant-loop-i l = (length l.out ≡ 328) × (l.out ≡ filled (numbers 328 8 (bits_each 10 l.words)) l.initial.out (5 * l.i))
