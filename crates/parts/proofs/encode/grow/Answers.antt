use Rattle.std.proofs.Common.{refl}
use Rattle.parts.specs.Batch.{grown}
use Rattle.parts.proofs.encode.grow.Goals as goal

pub returns : goal.returns
unfolding grown
returns c = refl
