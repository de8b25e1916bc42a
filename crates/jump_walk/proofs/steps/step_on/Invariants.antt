-- At most 128 steps. Assumes nothing.
use Rattle.std.proofs.Common.{◌<◌}
use Rattle.jump_walk.specs.Steps.{next, OnWay}
use Rattle.jump_walk.proofs.steps.step_on.Given as goal

-- At most 128 steps. Assumes nothing.
abbrev pub invariant-loop : goal.invariant-loop
invariant-loop l = OnWay (next l.file l.v) l.v.words l.p l.fn.c l.t × (l.fn.c.rank < l.t.rank)
