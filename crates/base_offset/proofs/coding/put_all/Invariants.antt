use Rattle.std.proofs.Common.{length}
use Rattle.base_groups.proofs.Grouped.{Writing}
use Rattle.base_offset.proofs.coding.put_all.Given as goal

abbrev pub invariant-loop-rest : goal.invariant-loop-rest
invariant-loop-rest l = Writing l.width l.step l.ps l.initial.e l.initial.dst l.e l.dst l.rest

abbrev pub decreases-loop-rest : goal.decreases-loop-rest
decreases-loop-rest l = length l.rest
