-- On from a place rank by rank. Assumes nothing.
use Rattle.jump_walk.specs.Passed.{Passed}
use Rattle.jump_walk.proofs.search.step_to.Given as goal

-- On from a place rank by rank. Assumes nothing.
-- rank r is reached
abbrev pub invariant-loop-r : goal.invariant-loop-r
invariant-loop-r l = Passed l.file l.v l.width l.fn.from l.p (record { rank = l.r; reached = l.s })
