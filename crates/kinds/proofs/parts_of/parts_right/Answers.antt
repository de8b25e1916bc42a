use Rattle.kinds.proofs.None.{not-allowed}
use Rattle.kinds.proofs.parts_of.parts_right.Goals as goal

pub returns-in-Err : goal.returns-in-Err
returns-in-Err c = absurd (not-allowed _ _ _ c.requires.allowed c.in-Err.ensures.1)
