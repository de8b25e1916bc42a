use Rattle.std.proofs.Common.{refl}
use Rattle.wire.specs.Wire.{add32}
use Rattle.page_walk.specs.Steps.{entered_by}
use Rattle.page_walk.proofs.steps.enter.Goals as goal

pub returns : goal.returns
unfolding entered_by add32
returns c = refl
