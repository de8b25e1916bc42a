-- The rank of a jump, group by group. Assumes nothing.
use native.Mathlib.Omega.{arith}
use Rattle.differences.proofs.JumpsAfter.{onward_group}
use Rattle.differences.proofs.after.jump_after.Goals as goal

pub loop-at-preserved : goal.loop-at-preserved
loop-at-preserved c =
    let l = c.loop-at in
    let m = l.invariant.most in
    let h = c.loop-at-test.true in
    onward_group l.invariant 128 c.zeros-z.ensures.0 c.if-left-z.false (omega arith)
