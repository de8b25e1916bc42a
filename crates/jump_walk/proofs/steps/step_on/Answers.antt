-- At most 128 steps. Assumes nothing.
use Rattle.std.proofs.Common.{arith}
use Rattle.jump_walk.proofs.Way.{stay, way_next}
use Rattle.jump_walk.proofs.steps.step_on.Goals as goal

pub loop-init : goal.loop-init
loop-init c =
    let a = c.args in
    way_next a.file.now a.v a.p a.c a.c (omega arith) (stay a.file.now a.v a.p a.c) c.requires.0 c.requires.1 c.next-t.ensures

pub loop-preserved : goal.loop-preserved
loop-preserved c =
    let a = c.args in
    let l = c.loop in
    let h = c.if-v-t.false in
    way_next a.file.now a.v a.p a.c l.t (omega arith) l.invariant.0 h c.if-p-t.false c.next-t-in-loop.ensures
