-- `along` meets its contract. Each turn fills the cells of a run, and goes to the next. Assumes nothing.
use Rattle.std.proofs.Common.{◌+◌, ◌-◌, ◌<◌, length, sym, refl, ◌∙◌, arith}
use Rattle.wire.proofs.Laws.{pair-there}
use Rattle.wire.specs.Wire.{add32}
use Rattle.parts.proofs.Batches.{batch_start, batch_end}
use Rattle.parts.proofs.Fills.{stretch_turn}
use Rattle.run_walk.proofs.Walk.{next-along}
use Rattle.run_walk.proofs.Passing.{in_run, to_run}
use Rattle.run_walk.proofs.steps.along.Goals.{After-fill_run-m, After-struct_known-else-at-c-2-1}
use Rattle.run_walk.proofs.steps.along.Goals as goal

pub fill_run-m-requires : goal.fill_run-m-requires
fill_run-m-requires c = let t = c.loop-i-test.true in omega (arith, c.loop-i.invariant.1)

pub overflow_add-i : goal.overflow_add-i
overflow_add-i c = let z = c.fill_run-m.ensures.room in omega arith

pub overflow_sub-more : goal.overflow_sub-more
overflow_sub-more c = let z = c.fill_run-m.ensures.some in omega arith

pub overflow_cast-more : goal.overflow_cast-more
overflow_cast-more c = let z = c.fill_run-m.ensures.small in omega arith

pub overflow_add-at : goal.overflow_add-at
overflow_add-at c =
    let z = c.fill_run-m.ensures in
    let one = z.some in
    let small = z.small in
    omega arith

-- the elements left become fewer
fewer : (c : After-fill_run-m)
    → length c.args.out.now - (c.loop-i.i + c.fill_run-m.result)
    < length c.args.out.now - c.loop-i.i
fewer c =
    let z = c.fill_run-m.ensures in
    let one = z.some in
    let size = c.loop-i.invariant.1 in
    let test = c.loop-i-test.true in
    omega arith

pub loop-i-smaller-then-at-c : goal.loop-i-smaller-then-at-c
loop-i-smaller-then-at-c c = fewer (goal.at.loop-i-smaller-then-at-c c).After-fill_run-m

pub loop-i-preserved-then-at-c : goal.loop-i-preserved-then-at-c
unfolding add32
loop-i-preserved-then-at-c c =
    let l = c.loop-i in
    let t = c.fill_run-m in
    let z = t.ensures in
    let one = z.some in
    let inside = z.inside in
    let small = z.small in
    let room = z.room in
    let size = l.invariant.1 in (
      omega arith,
      z.filled.size ∙ size,
      omega (arith, l.invariant.2),
      stretch_turn _ (next-along _ _) _ _ l.c _ _ _ l.i t.result size z
          (in_run _ _ l.c (t.result - 1) (omega arith) (omega arith) (omega arith) c.if-at-c.true) l.invariant.3,
    )

-- the next pair is in the file
pub get_pair-run-requires : goal.get_pair-run-requires
get_pair-run-requires c =
    let l = c.loop-i in
    let test = c.loop-i-test.true in
    omega (arith, l.invariant.1, l.invariant.2)

pub overflow_add-v : goal.overflow_add-v
overflow_add-v c = let h = get_pair-run-requires c in omega arith

pub loop-i-smaller : goal.loop-i-smaller
loop-i-smaller c = fewer (goal.at.loop-i-smaller c).After-fill_run-m

pub loop-i-preserved : goal.loop-i-preserved
unfolding add32
loop-i-preserved c =
    let l = c.loop-i in
    let t = c.fill_run-m in
    let z = t.ensures in
    let one = z.some in
    let inside = z.inside in
    let small = z.small in
    let room = z.room in
    let size = l.invariant.1 in (
      omega arith,
      z.filled.size ∙ size,
      omega (arith, l.invariant.2),
      stretch_turn _ (next-along _ _) _ _ l.c _ _ _ l.i t.result size z
          (to_run _ _ l.c (t.result - 1) (omega arith) (omega arith) (omega arith) _ c.if-at-c.false
          (c.get_pair-run.ensures.0 ∙ sym (pair-there _ _ (get_pair-run-requires (goal.at.loop-i-preserved c).After-struct_known-else-at-c-2-1)))) l.invariant.3,
    )

pub returns : goal.returns
returns c =
    let l = c.loop-i in
    batch_end _ _ _ l.c l.out l.i c.loop-i-test.false l.invariant.1 l.invariant.3

pub loop-i-init : goal.loop-i-init
loop-i-init c = (omega arith, refl, omega (arith, c.requires), batch_start _ _ _ _)
