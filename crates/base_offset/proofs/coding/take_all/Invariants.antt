use Rattle.std.proofs.Common.{length}
use Rattle.base_groups.proofs.Grouped.{Measuring}
use Rattle.base_offset.proofs.coding.take_all.Given as goal

abbrev pub invariant-loop-rest : goal.invariant-loop-rest
invariant-loop-rest l = Measuring l.width l.step l.ps l.initial.e l.e l.rest

abbrev pub decreases-loop-rest : goal.decreases-loop-rest
decreases-loop-rest l = length l.rest
