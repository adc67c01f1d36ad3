-- `lines::write_items` meets its contract. The loop's invariant: what is to be written is the rest of the items, on what the page is by now.
-- Assumes nothing.
use mathlib.Core.Path.{◌≡◌}
use Prim.Native.Nat.{◌-◌}
use lib.ListN.{drop}
use Rattle.lines.specs.Text.{written}
use Rattle.lines.specs.Shown.{item_lines, numbers}
use Rattle.lines.proofs.write_items.Given as goal

abbrev pub invariant-loop-number : goal.invariant-loop-number
invariant-loop-number l = written l.fn.page (item_lines numbers l.rec) ≡ written l.page (item_lines (drop (l.number - 1) numbers) l.rec)
