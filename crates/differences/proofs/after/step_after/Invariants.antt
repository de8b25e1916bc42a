-- The rank of a jump, rank by rank. Assumes nothing.
use Rattle.differences.proofs.JumpsAfter.{Onward}
use Rattle.differences.proofs.after.step_after.Given as goal

-- The rank of a jump, rank by rank. Assumes nothing.
-- the search has come to rank `at`
abbrev pub invariant-loop-at : goal.invariant-loop-at
invariant-loop-at l = Onward l.width l.second l.file l.last l.r l.m l.at l.left
