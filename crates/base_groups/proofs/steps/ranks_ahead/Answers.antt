use Rattle.std.proofs.Common.{arith}
use Rattle.base_groups.specs.Steps.{ahead_of}
use Rattle.base_groups.proofs.steps.ranks_ahead.Goals.{then-there, else-there}
use Rattle.base_groups.proofs.steps.ranks_ahead.Goals as goal

pub returns : goal.returns
unfolding ahead_of
returns c =
    elim c.if-there.branch [
      | then-there w ↦ rw w.if-there.true (grind arith)
      | else-there w ↦ rw w.if-there.false (rw w.ahead-is at c.min.ensures)
    ]
