-- `along` meets its contract. Each turn fills the cells of a run, and goes to the next. Assumes nothing.
use Rattle.std.proofs.Common.{◌≡◌, ◌-◌, ◌≤◌, length}
use Rattle.parts.proofs.Batches.{Partly}
use Rattle.run_walk.specs.Steps.{next, There}
use Rattle.run_walk.proofs.steps.along.Given as goal

-- `along` meets its contract. Each turn fills the cells of a run, and goes to the next. Assumes nothing.
abbrev pub invariant-loop-i : goal.invariant-loop-i
invariant-loop-i l =
    (l.i ≤ length l.initial.out) × (length l.out ≡ length l.initial.out) × There l.file l.v l.c (length l.initial.out - l.i) × Partly (next l.file l.v) l.initial.c (length l.initial.out) l.c l.out l.i

abbrev pub decreases-loop-i : goal.decreases-loop-i
decreases-loop-i l = length l.initial.out - l.i
