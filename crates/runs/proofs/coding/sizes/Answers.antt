-- `runs::coding::sizes` meets its contract. Assumes nothing.
use Rattle.std.proofs.Common.{refl}
use Rattle.run_pairs.specs.Coding.{runs_coder}
use Rattle.runs.proofs.coding.sizes.Goals as goal

-- `runs::coding::sizes` meets its contract. Assumes nothing.
pub returns : goal.returns
unfolding runs_coder
returns c = refl
