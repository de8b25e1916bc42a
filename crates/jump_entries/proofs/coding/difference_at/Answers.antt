use mathlib.Core.Path.{sym, ◌∙◌}
use Rattle.jump_entries.proofs.Adds.{difference-first, difference_later}
use Rattle.jump_entries.proofs.coding.difference_at.Goals as goal

pub returns-then-e-eq0 : goal.returns-then-e-eq0
returns-then-e-eq0 c = difference-first _ _ _ c.if-e-eq0.true

pub returns-else-e-eq0 : goal.returns-else-e-eq0
returns-else-e-eq0 c = c.stored_difference.ensures ∙ sym (difference_later _ _ _ c.if-e-eq0.false)
