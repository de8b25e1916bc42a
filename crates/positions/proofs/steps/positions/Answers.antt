use Rattle.std.proofs.Common.{arith}
use Rattle.parts.proofs.Batches.{batch_start, batch_turn, batch_end}
use Rattle.positions.proofs.steps.positions.Goals as goal

pub loop-x-init : goal.loop-x-init
loop-x-init c = batch_start _ _ _ _

pub loop-x-preserved : goal.loop-x-preserved
loop-x-preserved c =
    let l = c.loop-x in
    batch_turn _ _ _ l.c _ l.out l.x-index (omega arith) l.auto.out c.next-c.ensures l.invariant

pub returns : goal.returns
returns c =
    let l = c.loop-x in
    batch_end _ _ _ l.c l.out l.x-index (omega arith) l.auto.out l.invariant

pub along-requires : goal.along-requires
along-requires c = c.all_there.ensures c.if-all_there.true

pub returns-then-all_there : goal.returns-then-all_there
returns-then-all_there c = c.along.ensures
