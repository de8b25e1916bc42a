use mathlib.Core.Path.{◌≡◌}
use Rattle.levels.specs.LevelZero.{LevelZero}
use Rattle.levels.proofs.Climbing.{with_upper}
use Rattle.levels.proofs.put.put_levels.Given as goal

abbrev pub invariant-loop-under : goal.invariant-loop-under
invariant-loop-under l = LevelZero l.dst l.start l.step l.under l.below × (with_upper l.dst l.start l.step l.under l.below ≡ with_upper l.initial.dst l.start l.step l.runs l.second)

abbrev pub decreases-loop-under : goal.decreases-loop-under
decreases-loop-under l = l.under
