use Rattle.parts.proofs.Taking.{left-first, left-next}
use Rattle.parts.proofs.encode.left_after.Goals as goal

pub returns-then-left-eq0 : goal.returns-then-left-eq0
returns-then-left-eq0 c = left-first c.args.l c.args.left c.if-left-eq0.true

pub returns-else-left-eq0 : goal.returns-else-left-eq0
returns-else-left-eq0 c = left-next c.args.l c.args.left c.if-left-eq0.false
