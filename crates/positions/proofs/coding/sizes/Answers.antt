use Rattle.std.proofs.Common.{refl}
use Rattle.positions.specs.Coding.{coder}
use Rattle.positions.proofs.coding.sizes.Goals as goal

pub returns : goal.returns
unfolding coder
returns c = refl
