-- The rank of a jump, group by group. Assumes nothing.
use Prim.Native.Nat.{◌-◌}
use Rattle.differences.proofs.JumpsAfter.{Onward}
use Rattle.differences.proofs.after.jump_after.Given as goal

-- The rank of a jump, group by group. Assumes nothing.
-- the search has come to rank `at`
abbrev pub invariant-loop-at : goal.invariant-loop-at
invariant-loop-at l = Onward l.width l.second l.file l.last l.r l.m l.at l.left

abbrev pub decreases-loop-at : goal.decreases-loop-at
decreases-loop-at l = l.last - l.at
