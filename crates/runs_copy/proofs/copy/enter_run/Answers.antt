use Rattle.runs_copy.specs.Copy.{at_end}
use Rattle.runs_copy.proofs.copy.enter_run.Goals as goal

pub returns : goal.returns
unfolding at_end
returns c = c.next.ensures
