-- `b40::field::write_words` meets its contract. The loop's invariant: the places of the first `i` groups of four are filled with runs of ten bits.
-- Assumes nothing.
use mathlib.Core.Path.{◌≡◌}
use Prim.Native.Nat.{◌*◌}
use lib.ListN.{length}
use Rattle.basics.proofs.Laws.Parts.{filled}
use Rattle.b40.specs.Field.{bits_of, numbers}
use Rattle.b40.proofs.field.write_words.Given as goal

abbrev pub invariant-loop-i : goal.invariant-loop-i
invariant-loop-i l = (length l.out ≡ 262) × (l.out ≡ filled (numbers 262 10 (bits_of l.field)) l.initial.out (4 * l.i))
