use mathlib.Core.Path.{refl}
use Rattle.jump_entries.specs.Coding.{jumps_coder}
use Rattle.jumps.specs.Coding.{coder}
use Rattle.jumps.proofs.coding.sizes.Goals as goal

pub returns : goal.returns
unfolding coder jumps_coder
returns c = refl
