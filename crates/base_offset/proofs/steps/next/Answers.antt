use Rattle.base_groups.specs.Steps.{next}
use Rattle.base_offset.proofs.steps.next.Goals as goal

pub returns : goal.returns
unfolding next
returns c = rw (← c.base_of.ensures) c.offset_from.ensures
