-- `runs::steps::enter` meets its contract. Assumes nothing.
use Rattle.wire.specs.Wire.{add32}
use Rattle.run_walk.specs.Steps.{entered}
use Rattle.run_walk.proofs.steps.enter.Goals as goal

-- `runs::steps::enter` meets its contract. Assumes nothing.
pub returns : goal.returns
unfolding entered add32
returns c = rw c.load_pair-run.ensures
