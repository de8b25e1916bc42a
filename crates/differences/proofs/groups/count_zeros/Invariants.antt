-- The zeros of a group or fewer. Assumes nothing.
use Rattle.std.proofs.Common.{◌≡◌, ◌≤◌}
use Rattle.differences.specs.Walk.{zeros}
use Rattle.differences.proofs.groups.count_zeros.Given as goal

-- The zeros of a group or fewer. Assumes nothing.
-- k differences are counted
abbrev pub invariant-loop-k : goal.invariant-loop-k
invariant-loop-k g l = let e = g.E.Entry in (e.counted l.count ≤ l.k) × (e.counted l.count ≡ zeros e.WIDTH l.second l.file l.r l.k)
