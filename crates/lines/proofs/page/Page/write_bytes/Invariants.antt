-- `lines::page::Page::write_bytes` meets its contract. The loop's invariant: what is to be written is the rest of the bytes, on what the page is by
-- now.
-- Assumes nothing.
use mathlib.Core.Path.{◌≡◌}
use lib.ListN.{drop}
use Rattle.lines.specs.Text.{hex_bytes, written}
use Rattle.lines.proofs.page.Page.write_bytes.Given as goal

abbrev pub invariant-loop-b : goal.invariant-loop-b
invariant-loop-b l = written l.fn.self (hex_bytes l.bytes) ≡ written l.self (hex_bytes (drop l.b-index l.bytes))
