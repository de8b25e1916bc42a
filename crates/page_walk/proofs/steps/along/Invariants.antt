-- `along` meets its contract. Each turn fills the cells of a run, steps past it, and goes along the page. Assumes nothing.
use Rattle.std.proofs.Common.{◌-◌, length}
use Rattle.page_walk.specs.Steps.{next_in, Filled}
use Rattle.page_walk.proofs.steps.along.Given as goal

-- `along` meets its contract. Each turn fills the cells of a run, steps past it, and goes along the page. Assumes nothing.
abbrev pub invariant-loop-i : goal.invariant-loop-i
invariant-loop-i l = Filled (next_in l.file l.v.second l.v.step) l.initial.c 0 l.i l.initial.out l.c l.out

abbrev pub decreases-loop-i : goal.decreases-loop-i
decreases-loop-i l = length l.initial.out - l.i
