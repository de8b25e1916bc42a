use Rattle.base_groups.proofs.Turn.{Before}
use Rattle.base_groups.proofs.check.groups_right.Given as goal

abbrev pub invariant-loop-i : goal.invariant-loop-i
invariant-loop-i l = Before l.file l.v l.base l.i
