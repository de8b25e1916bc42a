use native.Mathlib.Omega.{arith}
use mathlib.Core.Path.{sym, ◌∙◌}
use Rattle.wire.proofs.Laws.{whole-there, whole-past}
use Rattle.wire.proofs.load_u32.Goals as goal

pub returns-then-s-lt4 : goal.returns-then-s-lt4
returns-then-s-lt4 c = (sym (whole-past 4 _ _ (omega arith)), omega arith)

pub returns-then-s-at : goal.returns-then-s-at
returns-then-s-at c = (sym (whole-past 4 _ _ (omega arith)), omega arith)

pub returns : goal.returns
returns c = (c.get_u32.ensures.0 ∙ sym (whole-there 4 _ _ (omega arith)), c.get_u32.ensures.1)
