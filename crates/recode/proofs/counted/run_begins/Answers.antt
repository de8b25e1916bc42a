use Rattle.recode.proofs.RunEdits.{begins-at, begins-not}
use Rattle.recode.proofs.counted.run_begins.Goals as goal

pub returns-then-l-end : goal.returns-then-l-end
returns-then-l-end c = begins-at c.args.end c.args.l c.if-end-eq0.false c.if-l-end.true

pub returns-else-l-end : goal.returns-else-l-end
returns-else-l-end c = begins-not c.args.end c.args.l c.if-end-eq0.false c.if-l-end.false
