use Rattle.wire.specs.Wire.{add32}
use Rattle.parts.specs.Cursor.{along_by}
use Rattle.parts.proofs.walk.along_run.Goals as goal

pub returns : goal.returns
unfolding along_by add32
returns c = cc
