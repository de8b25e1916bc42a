use Rattle.parts.specs.Ready.{moved}
use Rattle.std.proofs.Common.{refl}
use Rattle.parts.proofs.encode.move_on.Goals as goal

pub returns : goal.returns
unfolding moved
returns c = refl
