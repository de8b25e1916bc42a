use borrow.Author.Tests.{eq-eqb, ne_eqb}
use Rattle.levels.proofs.put.add.Goals as goal

pub returns-then-s-eq0 : goal.returns-then-s-eq0
returns-then-s-eq0 c = rw (eq-eqb c.args.s.left 0 c.if-s-eq0.true)

pub returns : goal.returns
returns c = rw (ne_eqb c.args.s.left 0 c.if-s-eq0.false)
