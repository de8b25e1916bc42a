-- `before_of` meets its contract. Assumes nothing.
use native.Mathlib.Omega.{arith}
use borrow.Author.Tests.{eq-eqb, ne_eqb}
use Rattle.levels.proofs.check.before_of.Goals as goal

-- `before_of` meets its contract. Assumes nothing.
pub returns-then-left-eq0 : goal.returns-then-left-eq0
returns-then-left-eq0 c = (rw (eq-eqb c.args.left 0 c.if-left-eq0.true), omega arith)

pub returns-else-left-eq0 : goal.returns-else-left-eq0
returns-else-left-eq0 c = (rw (ne_eqb c.args.left 0 c.if-left-eq0.false) c.from.ensures, omega arith)
