-- `along` meets its contract. Each turn fills the cells of a run, steps past it, and goes along the page. Assumes nothing.
use Rattle.std.proofs.Common.{◌+◌, arith}
use Rattle.page_walk.specs.Steps.{next_in, next, Filled}
use Rattle.page_walk.proofs.Walk.{in_along}
use Rattle.page_walk.proofs.Pages.{filled_none, filled-then, filled-run, filled-all, still_there}
use Rattle.page_walk.proofs.steps.along.Goals.{After-past_there-c}
use Rattle.page_walk.proofs.steps.along.Goals as goal

pub loop-i-init : goal.loop-i-init
loop-i-init c = filled_none _ _ _ _ (omega arith)

pub overflow_sub-m : goal.overflow_sub-m
overflow_sub-m c = let one = c.fill_run-m.ensures.some in omega arith

pub overflow_cast-m : goal.overflow_cast-m
overflow_cast-m c = let small = c.fill_run-m.ensures.small in omega arith

pub past_there-c-requires : goal.past_there-c-requires
past_there-c-requires c =
    let z = c.fill_run-m.ensures in
    let inside = z.inside in
    let p = c.requires in
    let size = c.loop-i.invariant.size in
    let test = c.loop-i-test.true in
    (omega arith, omega (arith, still_there _ _ _ _ c.loop-i.c 0 c.loop-i.i _ _ (omega arith) c.loop-i.invariant))

pub overflow_add-i : goal.overflow_add-i
overflow_add-i c = let room = c.fill_run-m.ensures.room in omega arith

-- past a run
run : (c : After-past_there-c)
    → let a = c.args in
    let t = c.fill_run-m in
    Filled (next_in a.file.now a.v.second a.v.step) a.c 0 (c.loop-i.i + t.result) a.out.now c.past_there-c.result t.new.out
unfolding next
run c =
    let l = c.loop-i in
    let t = c.fill_run-m in
    filled-then _ _ _ _ _ _ _ _ _ _ l.invariant (filled-run _ (in_along _ _ _) l.c _ l.i t.result _ _ t.ensures c.past_there-c.ensures)

pub along_page-s-requires : goal.along_page-s-requires
along_page-s-requires c =
    let f = run (goal.at.along_page-s-requires c).After-past_there-c in
    let room = f.high in
    let size = f.size in
    let p = c.requires in
    (omega arith, rw size (still_there _ _ _ _ c.past_there-c.result 0 _ _ _ (omega arith) f))

pub loop-i-smaller : goal.loop-i-smaller
loop-i-smaller c =
    let f = run (goal.at.loop-i-smaller c).After-past_there-c in
    let z = c.fill_run-m.ensures in
    let one = z.some in
    let room = f.high in
    let low = c.along_page-s.ensures.low in
    omega arith

pub loop-i-preserved : goal.loop-i-preserved
loop-i-preserved c =
    filled-then _ _ _ _ _ _ _ _ _ _ (run (goal.at.loop-i-preserved c).After-past_there-c) c.along_page-s.ensures

pub returns : goal.returns
unfolding next
returns c =
    let l = c.loop-i in
    let size = l.invariant.size in
    filled-all _ _ l.c l.i _ l.out (omega (arith, c.loop-i-test.false)) l.invariant
