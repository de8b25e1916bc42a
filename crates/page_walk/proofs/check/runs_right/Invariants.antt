-- `runs_right` meets its contract. The loop's invariant is `Going`. Assumes nothing.
use Rattle.std.proofs.Common.{◌+◌, ◌*◌}
use Rattle.page_walk.proofs.Along.{Going, level_right}
use Rattle.page_walk.proofs.check.runs_right.Given as goal

-- `runs_right` meets its contract. The loop's invariant is `Going`. Assumes nothing.
abbrev pub invariant-loop-left : goal.invariant-loop-left
invariant-loop-left l =
    Going l.v.cells l.v.words l.v.step l.file (level_right l.file l.v) l.falls (l.v.second + 8 * l.v.seconds) l.at l.left l.s

abbrev pub decreases-loop-left : goal.decreases-loop-left
decreases-loop-left l = l.left
