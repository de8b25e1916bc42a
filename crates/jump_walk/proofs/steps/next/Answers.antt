use Rattle.wire.specs.Wire.{add32}
use Rattle.jump_walk.specs.Steps.{next}
use Rattle.jump_walk.proofs.steps.next.Goals as goal

pub returns : goal.returns
unfolding next add32
returns c = rw (← c.entry_of.ensures) c.jump_by.ensures
