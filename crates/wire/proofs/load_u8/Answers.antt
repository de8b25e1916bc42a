use native.Mathlib.Omega.{arith}
use mathlib.Core.Path.{sym, ◌∙◌}
use Rattle.wire.proofs.Laws.{whole-there, whole-past}
use Rattle.wire.proofs.load_u8.Goals as goal

pub returns-then-at-s : goal.returns-then-at-s
returns-then-at-s c = (c.get_u8.ensures.0 ∙ sym (whole-there 1 _ _ (omega arith)), c.get_u8.ensures.1)

pub returns-else-at-s : goal.returns-else-at-s
returns-else-at-s c = (sym (whole-past 1 _ _ (omega arith)), omega arith)
