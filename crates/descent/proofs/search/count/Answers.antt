-- `count` meets its contract. Assumes nothing.
use Rattle.descent.proofs.search.count.Goals as goal

-- `count` meets its contract. Assumes nothing.
pub returns-then-stored : goal.returns-then-stored
returns-then-stored c = rw c.if-stored.true

pub returns-else-stored : goal.returns-else-stored
returns-else-stored c = rw c.if-stored.false
