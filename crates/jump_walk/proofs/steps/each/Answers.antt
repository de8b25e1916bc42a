use Rattle.std.proofs.Common.{arith}
use Rattle.parts.proofs.Batches.{batch_turn, batch_end}
use Rattle.jump_walk.proofs.steps.each.Goals as goal

pub loop-p-preserved : goal.loop-p-preserved
loop-p-preserved c =
    let l = c.loop-p in
    let h = c.loop-p-test.true in
    batch_turn _ _ _ l.c _ l.out l.p-index (omega arith) l.auto.out c.next-c.ensures l.invariant

pub returns : goal.returns
returns c =
    let l = c.loop-p in
    let h = c.loop-p-test.false in
    batch_end _ _ _ l.c l.out l.p-index (omega arith) l.auto.out l.invariant
