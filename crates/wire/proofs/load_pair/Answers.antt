use native.Mathlib.Omega.{arith}
use mathlib.Core.Path.{sym, ◌∙◌}
use Rattle.wire.proofs.Laws.{pair-there, pair-past}
use Rattle.wire.proofs.load_pair.Goals as goal

pub returns-then-s-lt8 : goal.returns-then-s-lt8
returns-then-s-lt8 c = sym (pair-past _ _ (omega arith))

pub returns-then-s-at : goal.returns-then-s-at
returns-then-s-at c = sym (pair-past _ _ (omega arith))

pub returns : goal.returns
returns c = c.get_pair.ensures.0 ∙ sym (pair-there _ _ (omega arith))
