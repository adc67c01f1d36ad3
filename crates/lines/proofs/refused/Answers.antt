-- `lines::refused` meets its contract: the line part by part, on a blank page.
-- Assumes nothing.
use Rattle.lines.specs.Shown.{refused_word, refused_line}
use Rattle.lines.proofs.Laws.Page.{written-append}
use Rattle.lines.proofs.refused.Goals as goal

pub returns : goal.returns
unfolding refused_word refused_line
returns c =
    rw (c.write-3.ensures, c.write_number-2.ensures, c.from-3.ensures, c.write-2.ensures, c.write_number.ensures, c.from-2.ensures, c.from.ensures, c.write.ensures, c.blank-page.ensures)
    (simp written-append)
