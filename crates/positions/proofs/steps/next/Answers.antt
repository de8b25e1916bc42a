use Rattle.wire.specs.Wire.{add32}
use Rattle.parts.specs.Cursor.{moved_to}
use Rattle.positions.specs.Steps.{next}
use Rattle.positions.proofs.steps.next.Goals as goal

pub returns : goal.returns
unfolding next moved_to add32
returns c = cc
