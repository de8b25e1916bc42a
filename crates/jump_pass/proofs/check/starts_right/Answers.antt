-- Rank 0 has the difference 0, or there is none. Assumes nothing.
use mathlib.Core.Path.{sym, ◌∙◌}
use native.Mathlib.Nat.{pos_of_ne-zero}
use native.Mathlib.Omega.{arith}
use borrow.Author.Tests.{eq-eqb}
use Rattle.jump_pass.proofs.Turns.{starts_none, starts-some}
use Rattle.jump_pass.proofs.check.starts_right.Goals as goal

pub returns-then-v-eq0 : goal.returns-then-v-eq0
returns-then-v-eq0 c = let a = c.args in eq-eqb _ 0 c.if-v-eq0.true ∙ sym (starts_none a.v a.file.now (omega arith))

pub returns-else-v-eq0 : goal.returns-else-v-eq0
returns-else-v-eq0 c = starts-some _ _ (pos_of_ne-zero c.if-v-eq0.false) c.difference.ensures.0
