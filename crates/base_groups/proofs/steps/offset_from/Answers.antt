use Rattle.wire.specs.Wire.{add32}
use Rattle.parts.specs.Cursor.{moved_to}
use Rattle.base_groups.specs.Steps.{offset_from}
use Rattle.base_groups.proofs.steps.offset_from.Goals as goal

pub returns : goal.returns
unfolding offset_from moved_to add32
returns c = rw c.entry_of.ensures
