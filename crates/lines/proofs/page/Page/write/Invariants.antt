-- `lines::page::Page::write` meets its contract. The loop's invariant: what is to be written is the rest of the text, on what the page is by now.
-- Assumes nothing.
use mathlib.Core.Path.{◌≡◌}
use lib.ListN.{drop}
use Rattle.lines.specs.Text.{written}
use Rattle.lines.proofs.page.Page.write.Given as goal

abbrev pub invariant-loop-c : goal.invariant-loop-c
invariant-loop-c l = written l.fn.self l.text ≡ written l.self (drop l.c-index l.text)
