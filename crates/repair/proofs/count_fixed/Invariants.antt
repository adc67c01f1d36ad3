-- `repair::count_fixed` meets its contract. The loop's invariant: the count is that of the first `i` places.
-- Assumes nothing.
use mathlib.Core.Path.{◌≡◌}
use Prim.Native.Nat.{◌≤◌}
use lib.ListN.{take}
use Rattle.rs.specs.Decode.{changes}
use Rattle.anc.specs.Words.{sound_words}
use Rattle.repair.proofs.count_fixed.Given as goal

abbrev pub invariant-loop-i : goal.invariant-loop-i
invariant-loop-i l = (l.fixed ≤ l.i) × (l.fixed ≡ changes (take l.i l.words) (take l.i (sound_words l.bytes)))
