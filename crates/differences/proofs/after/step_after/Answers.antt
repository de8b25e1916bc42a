-- The rank of a jump, rank by rank. Assumes nothing.
use native.Mathlib.Omega.{arith}
use Rattle.differences.proofs.JumpsAfter.{onward-rank, found_later, found_here}
use Rattle.differences.proofs.after.step_after.Goals as goal

pub returns-then-left-eq0 : goal.returns-then-left-eq0
returns-then-left-eq0 c = let i = c.loop-at.invariant in found_later i (found_here (omega arith) i.most)

pub loop-at-preserved : goal.loop-at-preserved
loop-at-preserved c =
    let n = c.if-left-eq0.false in
    onward-rank c.loop-at.invariant (omega arith) c.loop-at-test.true c.difference.ensures.0 c.zero.ensures.0
