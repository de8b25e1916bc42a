-- `count_at` meets its contract. Assumes nothing.
use Rattle.std.proofs.Common.{arith}
use Rattle.wire.specs.Wire.{field_pair}
use Rattle.levels.proofs.Reading.{entry_at}
use Rattle.descent.proofs.search.count_at.Goals as goal

-- `count_at` meets its contract. Assumes nothing.
pub returns-then-stored : goal.returns-then-stored
unfolding field_pair
returns-then-stored c =
    let g = c.get_u32-cells in
    let a = c.args in
    rw (entry_at a.start a.file.now a.number (omega arith), c.if-stored.true)
    (rw (g.ensures.0, c.get_u32.ensures.0))

pub returns-else-stored : goal.returns-else-stored
unfolding field_pair
returns-else-stored c =
    let a = c.args in
    rw (entry_at a.start a.file.now a.number (omega arith), c.if-stored.false)
    c.get_u32-cells.ensures.0
