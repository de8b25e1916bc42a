use Rattle.kinds.proofs.None.{none-placed}
use Rattle.kinds.proofs.search.position_of.Goals as goal

pub returns-in-Err : goal.returns-in-Err
returns-in-Err c = none-placed _ _ _ _ c.in-Err.ensures.1
