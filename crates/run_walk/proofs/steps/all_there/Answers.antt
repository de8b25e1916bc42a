use Rattle.std.proofs.Common.{sym, true≢false, leb-true}
use Rattle.run_walk.proofs.steps.all_there.Goals as goal

pub returns-then-n-gt65536 : goal.returns-then-n-gt65536
returns-then-n-gt65536 c e = absurd (true≢false (sym e))

pub returns : goal.returns
returns c e = leb-true _ _ e
