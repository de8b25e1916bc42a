use Rattle.parts.proofs.Taking.{width-1, width-2}
use Rattle.std.proofs.Common.{arith}
use Rattle.parts.proofs.encode.limit.Goals as goal

pub returns-then-width-eq1 : goal.returns-then-width-eq1
returns-then-width-eq1 c = width-1 c.args.width c.if-width-eq1.true

pub returns-else-width-eq1 : goal.returns-else-width-eq1
returns-else-width-eq1 c = width-2 c.args.width (omega arith)
