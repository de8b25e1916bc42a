-- What is left of the walk gives the whole, and the ranks ahead fall. Assumes nothing.
use Rattle.std.proofs.Common.{◌≡◌, ◌-◌}
use Rattle.parts.specs.Walks.{sought}
use Rattle.parts.specs.Walks.{Climbs}
use Rattle.jump_walk.specs.Steps.{next}
use Rattle.jump_walk.proofs.steps.seek.Given as goal

-- What is left of the walk gives the whole, and the ranks ahead fall. Assumes nothing.
abbrev pub invariant-loop-c : goal.invariant-loop-c
invariant-loop-c l =
    (sought (next l.file l.v) l.v.words l.wanted (l.v.words - l.c.rank) l.c ≡ sought (next l.file l.v) l.v.words l.wanted (l.v.words - l.initial.c.rank) l.initial.c)
    × Climbs (next l.file l.v) l.v.words l.c

abbrev pub decreases-loop-c : goal.decreases-loop-c
decreases-loop-c l = l.v.words - l.c.rank
