use Rattle.kinds.proofs.None.{not-allowed}
use Rattle.kinds.proofs.parts_of.part_bytes.Goals as goal

pub returns-in-Err : goal.returns-in-Err
returns-in-Err c = absurd (not-allowed _ _ _ c.requires.0 c.in-Err.ensures.1)
