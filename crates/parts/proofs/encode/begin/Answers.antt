use Rattle.parts.specs.Encoder.{begun}
use Rattle.std.proofs.Common.{refl}
use Rattle.parts.proofs.encode.begin.Goals as goal

pub returns : goal.returns
unfolding begun
returns c = refl
