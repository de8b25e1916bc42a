-- `level_sizes` meets its contract. The loop's invariant is `Storing`; each level is smaller than the one below. Assumes nothing.
use Rattle.levels.proofs.LevelSizes.{Storing}
use Rattle.levels.proofs.sizes.level_sizes.Given as goal

-- `level_sizes` meets its contract. The loop's invariant is `Storing`; each level is smaller than the one below. Assumes nothing.
abbrev pub invariant-loop-size : goal.invariant-loop-size
invariant-loop-size l = Storing l.step l.seconds l.sizes l.size l.count l.entries

abbrev pub decreases-loop-size : goal.decreases-loop-size
decreases-loop-size l = l.size
