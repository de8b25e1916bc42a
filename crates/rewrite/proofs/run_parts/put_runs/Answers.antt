use Prim.Native.Nat.{◌+◌, ◌-◌}
use mathlib.Core.Path.{◌≡◌}
use native.Mathlib.Omega.{arith}
use lib.ListN.{length}
use Rattle.parts.proofs.Along.{stretch_inside}
use Rattle.parts.proofs.Carried.{written_begin, cells, run_asked, run_room, written_turn, written_end}
use Rattle.kinds.specs.Steps.{next_of, walked, stepped_by}
use Rattle.kinds.specs.Coding.{coder, taken_all}
use Rattle.kinds.proofs.Laws.{codes}
use Rattle.kinds.proofs.Counts.{next-along}
use Rattle.rewrite.specs.Walk.{along}
use Rattle.rewrite.proofs.run_parts.put_runs.Goals as goal

pub loop-left-init : goal.loop-left-init
unfolding walked
loop-left-init c =
    let a = c.args in
    written_begin (next_of a.file.now a.v) (coder a.s) a.dst.now a.c a.e a.n c.requires.3 c.requires.4

pub put_run-e-requires : goal.put_run-e-requires
put_run-e-requires c =
    let a = c.args in
    let l = c.loop-left in
    let k = c.stretch-k in
    let q = cells l.c k.result l.left c.loop-left-test.true k.ensures in
    let f = next_of a.file.now a.v in
    let g = next-along a.file.now a.v c.requires.2 in
    let r = run_asked f (coder a.s) g l.c l.e k.result l.left q l.invariant.rest in
    let m = run_room f (coder a.s) g l.c l.e k.result l.left q (length l.dst) l.invariant.room in
    (c.requires.0, c.requires.1, q.some, r.0, r.1, r.2, m)

pub overflow_sub-k : goal.overflow_sub-k
overflow_sub-k c =
    let s = c.stretch-k.ensures in
    let z = s.1 c.loop-left-test.true in
    omega arith

pub past_cells-c-requires : goal.past_cells-c-requires
past_cells-c-requires c =
    let l = c.loop-left in
    let k = c.stretch-k in
    (c.requires.2, stretch_inside k.result l.c.at l.c.last k.ensures.2)

pub overflow_sub-left : goal.overflow_sub-left
overflow_sub-left c = let h = c.stretch-k.ensures.0 in omega arith

pub loop-left-smaller : goal.loop-left-smaller
loop-left-smaller c =
    let s = c.stretch-k.ensures in
    let h = s.0 in
    let z = s.1 c.loop-left-test.true in
    omega arith

pub loop-left-preserved : goal.loop-left-preserved
unfolding stepped_by taken_all
loop-left-preserved c =
    let a = c.args in
    let l = c.loop-left in
    let k = c.stretch-k in
    let o = c.put_run-e in
    let q = cells l.c k.result l.left c.loop-left-test.true k.ensures in
    let z = q.some in
    let one : k.result - 1 + 1 ≡ k.result = omega arith in
    written_turn (next_of a.file.now a.v) (coder a.s) (next-along a.file.now a.v c.requires.2) l.c l.e k.result l.left q
    (codes a.s c.requires.0).keeps a.dst.now a.c a.e a.n l.dst _ c.past_cells-c.result o.result (rw one at c.past_cells-c.ensures) o.ensures.0
    o.ensures.1 l.invariant

pub returns : goal.returns
unfolding along walked
returns c =
    let a = c.args in
    let l = c.loop-left in
    let w = written_end (next_of a.file.now a.v) (coder a.s) a.dst.now a.c a.e a.n l.dst l.c l.e l.left c.loop-left-test.false l.invariant in
    (w.walk, w.bytes)
