-- `upper_right` meets its contract. The loop's invariant is `Climbing`; each level is smaller than the one below. Assumes nothing.
use Rattle.levels.specs.Levels.{entries}
use Rattle.levels.proofs.Above.{Climbing}
use Rattle.levels.proofs.check.upper_right.Given as goal

-- `upper_right` meets its contract. The loop's invariant is `Climbing`; each level is smaller than the one below. Assumes nothing.
abbrev pub invariant-loop-under : goal.invariant-loop-under
invariant-loop-under l = Climbing (entries l.v.start l.file) l.v.step l.v.firsts l.v.seconds l.below l.under

abbrev pub decreases-loop-under : goal.decreases-loop-under
decreases-loop-under l = l.under
