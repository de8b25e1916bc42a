use Rattle.std.proofs.Common.{◌≡◌}
use Rattle.wire.proofs.Laws.{other_width}
use Rattle.difference_rows.proofs.put.put_differences.Goals.{Else-width-eq1}
use Rattle.difference_rows.proofs.put.put_differences.Goals as goal

two : (c : Else-width-eq1) → c.args.width ≡ 2
two c = let z = c.requires in other_width _ z.2 z.3 c.if-width-eq1.false

pub returns-then-width-eq1 : goal.returns-then-width-eq1
returns-then-width-eq1 c = rw c.if-width-eq1.true c.put_entries.ensures

pub returns-else-width-eq1 : goal.returns-else-width-eq1
returns-else-width-eq1 c = rw (two (goal.at.returns-else-width-eq1 c).Else-width-eq1) c.put_entries-else-width-eq1.ensures
