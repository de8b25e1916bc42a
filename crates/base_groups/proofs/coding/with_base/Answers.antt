use Rattle.std.proofs.Common.{sym}
use Rattle.base_groups.specs.Coding.{due, opened}
use Rattle.base_groups.proofs.Adds.{opened-same}
use Rattle.base_groups.proofs.coding.with_base.Goals as goal

pub returns-then-e-eq0 : goal.returns-then-e-eq0
unfolding opened due
returns-then-e-eq0 c = rw c.if-e-eq0.true

pub returns-else-e-eq0 : goal.returns-else-e-eq0
returns-else-e-eq0 c =
    let a = c.args in
    sym (opened-same a.step a.e a.p c.if-e-eq0.false)
