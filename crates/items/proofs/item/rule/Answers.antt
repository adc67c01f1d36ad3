-- `items::item::rule` meets its contract: a sound mode is one byte.
-- Assumes nothing.
use mathlib.Core.Path.{◌∙◌}
use native.Mathlib.Omega.{arith}
use Rattle.items.proofs.Laws.Item.{sound_at}
use Rattle.items.proofs.item.rule.Goals as goal

pub returns-in-6 : goal.returns-in-6
returns-in-6 c = c.sound_byte.ensures ∙ sound_at c.args.number c.args.bytes.now (grind arith) c.requires
