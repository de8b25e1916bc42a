use Rattle.std.proofs.Common.{◌-◌, ◌≤◌, length}
use Rattle.parts.proofs.Batches.{Partly}
use Rattle.page_walk.specs.Steps.{next}
use Rattle.paged_runs.proofs.steps.positions.Given as goal

abbrev pub invariant-loop-i : goal.invariant-loop-i
invariant-loop-i l = (l.i ≤ length l.initial.out) × Partly (next l.file l.v) l.initial.c (length l.initial.out) l.c l.out l.i

abbrev pub decreases-loop-i : goal.decreases-loop-i
decreases-loop-i l = length l.initial.out - l.i
