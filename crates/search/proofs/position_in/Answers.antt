use Rattle.search.proofs.Places.{position_past, position-found}
use Rattle.search.proofs.position_in.Goals as goal

pub returns-then-v-r : goal.returns-then-v-r
returns-then-v-r c = position_past _ _ _ c.if-v-r.true

pub returns : goal.returns
returns c = rw c.position_below.ensures (position-found _ _ _ _ c.if-v-r.false c.position_of.ensures)
