use Rattle.std.proofs.Common.{refl}
use Rattle.runs_copy.specs.Copy.{ran_on}
use Rattle.runs_copy.proofs.copy.run_on.Goals as goal

pub returns : goal.returns
unfolding ran_on
returns c = refl
