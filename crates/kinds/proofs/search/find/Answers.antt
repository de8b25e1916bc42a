use Rattle.kinds.proofs.None.{none_found}
use Rattle.kinds.proofs.search.find.Goals as goal

pub returns-in-Err : goal.returns-in-Err
returns-in-Err c = none_found _ _ _ c.in-Err.ensures.1
