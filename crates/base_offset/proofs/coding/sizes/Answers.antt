use mathlib.Core.Path.{refl}
use Rattle.base_groups.specs.Coding.{coder}
use Rattle.base_offset.proofs.coding.sizes.Goals as goal

pub returns : goal.returns
unfolding coder
returns c = refl
