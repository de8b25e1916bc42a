use Rattle.parts.proofs.Last.{picked}
use Rattle.parts.proofs.search.counted.Goals as goal

pub returns : goal.returns
returns c = picked _ _ c.from.ensures
