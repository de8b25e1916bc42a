-- `run_pairs::batch::further` meets its contract. Assumes nothing.
use mathlib.Core.Path.{refl}
use Rattle.run_pairs.specs.Coding.{further}
use Rattle.run_pairs.proofs.batch.further.Goals as goal

-- `run_pairs::batch::further` meets its contract. Assumes nothing.
pub returns : goal.returns
unfolding further
returns c = refl
