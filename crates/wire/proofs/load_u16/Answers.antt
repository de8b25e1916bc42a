use native.Mathlib.Omega.{arith}
use mathlib.Core.Path.{sym, ◌∙◌}
use Rattle.wire.proofs.Laws.{whole-there, whole-past}
use Rattle.wire.proofs.load_u16.Goals as goal

pub returns-then-s-lt2 : goal.returns-then-s-lt2
returns-then-s-lt2 c = (sym (whole-past 2 _ _ (omega arith)), omega arith)

pub returns-then-s-at : goal.returns-then-s-at
returns-then-s-at c = (sym (whole-past 2 _ _ (omega arith)), omega arith)

pub returns : goal.returns
returns c = (c.get_u16.ensures.0 ∙ sym (whole-there 2 _ _ (omega arith)), c.get_u16.ensures.1)
