use Rattle.std.proofs.Common.{arith}
use Rattle.parts.proofs.Batches.{batch_start, batch_end}
use Rattle.parts.proofs.Fills.{stretch_turn}
use Rattle.page_walk.proofs.Walk.{next-along}
use Rattle.paged_runs.proofs.steps.positions.Goals as goal

pub loop-i-init : goal.loop-i-init
loop-i-init c = (omega arith, batch_start _ _ _ _)

pub overflow_sub-m : goal.overflow_sub-m
overflow_sub-m c =
    let one = c.fill_run-m.ensures.some in
    omega arith

pub overflow_cast-m : goal.overflow_cast-m
overflow_cast-m c =
    let small = c.fill_run-m.ensures.small in
    omega arith

pub past-c-requires : goal.past-c-requires
past-c-requires c =
    let inside = c.fill_run-m.ensures.inside in
    omega arith

pub overflow_add-i : goal.overflow_add-i
overflow_add-i c =
    let room = c.fill_run-m.ensures.room in
    omega arith

pub loop-i-smaller : goal.loop-i-smaller
loop-i-smaller c =
    let z = c.fill_run-m.ensures in
    let one = z.some in
    let room = z.room in
    omega arith

pub loop-i-preserved : goal.loop-i-preserved
loop-i-preserved c =
    let t = c.fill_run-m in
    let l = c.loop-i in
    let z = t.ensures in
    let room = z.room in
    (omega arith, stretch_turn _ (next-along _ _) _ _ l.c _ _ _ l.i t.result l.auto.out z c.past-c.ensures l.invariant.1)

pub returns : goal.returns
returns c =
    let l = c.loop-i in
    batch_end _ _ _ l.c l.out l.i c.loop-i-test.false l.auto.out l.invariant.1

pub along-requires : goal.along-requires
along-requires c = c.all_there.ensures c.if-all_there.true

pub returns-then-all_there : goal.returns-then-all_there
returns-then-all_there c = c.along.ensures
