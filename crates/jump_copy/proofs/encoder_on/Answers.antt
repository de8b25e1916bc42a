use mathlib.Core.Path.{refl}
use Rattle.jump_copy.specs.Further.{further}
use Rattle.jump_copy.proofs.encoder_on.Goals as goal

pub returns : goal.returns
unfolding further
returns c = refl
