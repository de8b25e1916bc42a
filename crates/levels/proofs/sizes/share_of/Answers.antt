-- `share_of` meets its contract. Assumes nothing.
use native.Mathlib.Omega.{arith}
use Rattle.levels.proofs.Shares.{share_by_one}
use Rattle.levels.proofs.sizes.share_of.Goals as goal

-- `share_of` meets its contract. Assumes nothing.
pub returns : goal.returns
returns c = omega (arith, share_by_one c.args.step (omega arith))
