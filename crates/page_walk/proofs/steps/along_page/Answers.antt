-- `along_page` meets its contract. Each turn fills the cells of a run, and goes to the next entry of the page. Assumes nothing.
use Rattle.std.proofs.Common.{◌+◌, ◌-◌, ◌<◌, length, sym, ◌∙◌, arith}
use Rattle.wire.proofs.Laws.{pair-there}
use Rattle.wire.specs.Wire.{add32}
use Rattle.page_walk.proofs.Walk.{in_along}
use Rattle.page_walk.proofs.Pages.{filled_none, filled-then, filled-run, still_there, in_run, in_page}
use Rattle.page_walk.proofs.steps.along_page.Goals.{After-fill_run-m, After-struct_known-else-at-c-1}
use Rattle.page_walk.proofs.steps.along_page.Goals as goal

pub loop-i-init : goal.loop-i-init
loop-i-init c = filled_none _ _ _ _ c.requires.0

pub fill_run-m-requires : goal.fill_run-m-requires
fill_run-m-requires c = let t = c.loop-i-test.true in omega arith

pub overflow_add-i : goal.overflow_add-i
overflow_add-i c = let z = c.fill_run-m.ensures.room in omega arith

pub overflow_sub-more : goal.overflow_sub-more
overflow_sub-more c = let z = c.fill_run-m.ensures.some in omega arith

pub overflow_cast-more : goal.overflow_cast-more
overflow_cast-more c = let z = c.fill_run-m.ensures.small in omega arith

pub overflow_add-at : goal.overflow_add-at
overflow_add-at c =
    let z = c.fill_run-m.ensures in
    let one = z.some in
    let small = z.small in
    omega arith

-- the elements left become fewer
fewer : (c : After-fill_run-m)
    → length c.args.out.now - (c.loop-i.i + c.fill_run-m.result)
    < length c.args.out.now - c.loop-i.i
fewer c =
    let z = c.fill_run-m.ensures in
    let one = z.some in
    let size = c.loop-i.invariant.size in
    let test = c.loop-i-test.true in
    omega arith

pub loop-i-smaller-then-at-c : goal.loop-i-smaller-then-at-c
loop-i-smaller-then-at-c c = fewer (goal.at.loop-i-smaller-then-at-c c).After-fill_run-m

pub loop-i-preserved-then-at-c : goal.loop-i-preserved-then-at-c
unfolding add32
loop-i-preserved-then-at-c c =
    let t = c.fill_run-m in
    let l = c.loop-i in
    let z = t.ensures in
    let one = z.some in
    let inside = z.inside in
    let small = z.small in
    filled-then _ _ _ _ _ _ _ _ _ _ l.invariant
    (filled-run _ (in_along _ _ _) l.c _ l.i t.result _ _ z
    (in_run _ _ _ l.c (t.result - 1) (omega arith) (omega arith) (omega arith) c.if-at-c.true))

-- the next entry is in the file
pub get_pair-x-requires : goal.get_pair-x-requires
get_pair-x-requires c =
    let size = c.loop-i.invariant.size in
    let test = c.loop-i-test.true in
    omega (arith, still_there _ _ _ _ c.loop-i.c _ _ _ _ c.requires.1 c.loop-i.invariant)

pub overflow_add-second : goal.overflow_add-second
overflow_add-second c = let h = get_pair-x-requires c in omega arith

pub overflow_add-c-else-at-c : goal.overflow_add-c-else-at-c
overflow_add-c-else-at-c c =
    omega (arith, c.if-step-c.false, c.ranges.step)

pub loop-i-smaller : goal.loop-i-smaller
loop-i-smaller c = fewer (goal.at.loop-i-smaller c).After-fill_run-m

pub loop-i-preserved : goal.loop-i-preserved
unfolding add32
loop-i-preserved c =
    let t = c.fill_run-m in
    let l = c.loop-i in
    let z = t.ensures in
    let one = z.some in
    let inside = z.inside in
    let small = z.small in
    filled-then _ _ _ _ _ _ _ _ _ _ l.invariant
    (filled-run _ (in_along _ _ _) l.c _ l.i t.result _ _ z
    (in_page _ _ _ l.c (t.result - 1) (omega arith) (omega arith) (omega arith) _ c.if-at-c.false c.if-step-c.false
    (c.get_pair-x.ensures.0 ∙ sym (pair-there _ _ (get_pair-x-requires (goal.at.loop-i-preserved c).After-struct_known-else-at-c-1)))))

pub returns-then-step-c : goal.returns-then-step-c
returns-then-step-c c = c.loop-i.invariant

pub returns : goal.returns
returns c = c.loop-i.invariant
