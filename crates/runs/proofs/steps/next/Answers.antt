-- `runs::steps::next` meets its contract. Assumes nothing.
use Rattle.std.proofs.Common.{le-ltb, lt-ltb}
use Rattle.wire.specs.Wire.{add32}
use Rattle.parts.specs.Cursor.{along_run}
use Rattle.run_walk.specs.Steps.{next}
use Rattle.runs.proofs.steps.next.Goals as goal

-- `runs::steps::next` meets its contract. Assumes nothing.
pub returns-then-c : goal.returns-then-c
unfolding next along_run add32
returns-then-c c = rw (lt-ltb _ _ c.if-c.true)

pub returns : goal.returns
unfolding next
returns c = rw (le-ltb _ _ c.if-c.false) c.enter.ensures
