use Rattle.parts.proofs.Taking.{ends-none, ends_later}
use Rattle.parts.proofs.encode.run_ends.Goals as goal

pub returns-then-e-eq0 : goal.returns-then-e-eq0
returns-then-e-eq0 c = ends-none c.args.e c.args.p c.if-e-eq0.true

pub returns : goal.returns
returns c = ends_later c.args.e c.args.p c.if-e-eq0.false
