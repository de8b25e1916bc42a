use Rattle.parts.proofs.Taking.{if_more}
use Rattle.base_groups.specs.Coding.{due}
use Rattle.base_groups.proofs.coding.served.Goals.{then-left-eq0, else-left-eq0}
use Rattle.base_groups.proofs.coding.served.Goals as goal

pub returns : goal.returns
unfolding due
returns c =
    let a = c.args in
    elim c.if-left-eq0.branch [
      | then-left-eq0 w ↦ rw w.if-left-eq0.true (rw w.due-is at c.min.ensures)
      | else-left-eq0 w ↦ rw (if_more a.left a.step a.left w.if-left-eq0.false) (rw w.due-is at c.min.ensures)
    ]
