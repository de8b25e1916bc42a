use Rattle.std.proofs.Common.{◌≡◌, ◌+◌, ◌-◌, length, sym, ap, ◌∙◌, arith}
use Rattle.parts.specs.declared.Cursor.{Cursor}
use Rattle.parts.specs.declared.walk.Walk.{Walk}
use Rattle.parts.specs.Cursor.{stepped_as}
use Rattle.parts.specs.Carried.{carried}
use Rattle.parts.proofs.Batches.{stepped_as_add}
use Rattle.parts.proofs.Carried.{Written, written_begin, Cells, cells, run_asked, run_room, written_turn, written_then, written_end}
use Rattle.page_walk.specs.Steps.{next}
use Rattle.page_entries.specs.Coding.{pages_coder, coder}
use Rattle.page_walk.proofs.Allowed.{page-step}
use Rattle.page_walk.proofs.Walk.{next-along}
use Rattle.page_entries.proofs.OneEntry.{keeps_pages}
use Rattle.pages_copy.proofs.Turn.{reached_on, past-last, reached_last, some-last, same-last}
use Rattle.pages_copy.proofs.put_runs.Goals.{After-along_run-last, After-stretch-k}
use Rattle.pages_copy.proofs.put_runs.Goals as goal

pub loop-left-init : goal.loop-left-init
unfolding coder
loop-left-init c =
    let a = c.args in
    (written_begin (next a.file.now a.v) (pages_coder a.step) a.dst.now a.c a.e a.n c.requires.3 c.requires.4, c.requires.2)

-- the cells of the stretch
cells-here : (c : After-stretch-k) → Cells c.loop-left.c c.stretch-k.result c.loop-left.left
cells-here c = let l = c.loop-left in cells l.c c.stretch-k.result l.left c.loop-left-test.true c.stretch-k.ensures

pub put_run-e-requires : goal.put_run-e-requires
unfolding coder
put_run-e-requires c =
    let a = c.args in
    let l = c.loop-left in
    let k = c.stretch-k.result in
    let q = cells-here (goal.at.put_run-e-requires c).After-stretch-k in
    let f = next a.file.now a.v in
    let g = next-along a.file.now a.v in
    let r = run_asked f (pages_coder a.step) g l.c l.e k l.left q l.invariant.0.rest in
    let m = run_room f (pages_coder a.step) g l.c l.e k l.left q (length l.dst) l.invariant.0.room in
    (c.requires.0, q.some, r.0, r.1, r.2, m)

pub overflow_sub-k : goal.overflow_sub-k
overflow_sub-k c = (cells-here (goal.at.overflow_sub-k c).After-stretch-k).some

pub overflow_sub-left : goal.overflow_sub-left
overflow_sub-left c = (cells-here (goal.at.overflow_sub-left c).After-stretch-k).most

-- the stretch is put out
stretch-out : (c : After-along_run-last)
    → let a = c.args in
    Written (next a.file.now a.v) (pages_coder a.step) a.dst.now a.c a.e a.n c.put_run-e.new.dst (next a.file.now a.v c.along_run-last.result)
    c.put_run-e.result (c.loop-left.left - c.stretch-k.result)
unfolding coder
stretch-out c =
    let a = c.args in
    let l = c.loop-left in
    let k = c.stretch-k.result in
    let q = cells l.c k l.left c.loop-left-test.true c.stretch-k.ensures in
    let o = c.put_run-e in
    let b = a.file.now in
    written_turn (next b a.v) (pages_coder a.step) (next-along b a.v) l.c l.e k l.left q (keeps_pages a.step) a.dst.now a.c a.e a.n l.dst _
    (next b a.v c.along_run-last.result) o.result
    (past-last b a.v a.step l.c l.e k l.left q l.invariant.0.rest a.v.words l.invariant.1 c.along_run-last.result c.along_run-last.ensures)
    o.ensures.0 o.ensures.1 l.invariant.0

pub put_page-w-requires : goal.put_page-w-requires
unfolding coder
put_page-w-requires c =
    let a = c.args in
    let l = c.loop-left in
    let k = c.stretch-k.result in
    let q = cells-here (goal.at.put_page-w-requires c).After-stretch-k in
    let o = c.put_run-e in
    let r = c.along_run-last in
    let b = a.file.now in
    let w = stretch-out (goal.at.put_page-w-requires c).After-along_run-last in
    let s = (page-step a.width a.step c.requires.0).0 in (
      omega arith,
      c.requires.1,
      reached_last b a.v a.step l.c l.e k l.left q l.invariant.0.rest a.v.words l.invariant.1 r.result r.ensures,
      some-last b a.v a.step l.c l.e k l.left q l.invariant.0.rest a.v.words l.invariant.1 r.result r.ensures o.result o.ensures.0,
      same-last b a.v a.step l.c l.e k l.left q l.invariant.0.rest a.v.words l.invariant.1 r.result r.ensures o.result o.ensures.0,
      w.rest,
      w.room,
    )

pub overflow_sub-left-in-loop-left : goal.overflow_sub-left-in-loop-left
overflow_sub-left-in-loop-left c = let r = c.put_page-w.ensures.rank in omega arith

pub overflow_sub-left-in-loop-left-2 : goal.overflow_sub-left-in-loop-left-2
overflow_sub-left-in-loop-left-2 c =
    let u = c.put_page-w.ensures in
    let r = u.rank in
    let m = u.most in
    omega arith

pub loop-left-smaller : goal.loop-left-smaller
loop-left-smaller c =
    let q = cells-here (goal.at.loop-left-smaller c).After-stretch-k in
    let m = q.most in
    let s = q.some in
    omega arith

pub loop-left-preserved : goal.loop-left-preserved
unfolding carried
loop-left-preserved c =
    let a = c.args in
    let l = c.loop-left in
    let k = c.stretch-k.result in
    let q = cells-here (goal.at.loop-left-preserved c).After-stretch-k in
    let r = c.along_run-last in
    let u = c.put_page-w in
    let b = a.file.now in
    let f = next b a.v in
    let m = u.ensures.ranks in
    let e = u.ensures.rank in
    let o = u.ensures.most in
    let i = q.most in
    let x = c.next-c.ensures in
    let n : u.result.c.rank - r.result.rank ≡ m = omega arith in
    let w = written_then f (pages_coder a.step) (keeps_pages a.step) a.dst.now a.c a.e a.n _ _ _ _ (stretch-out (goal.at.loop-left-preserved c).After-along_run-last) m o _ _ u.ensures.put in
    let t : f u.result.c ≡ stepped_as f l.c (k + m)
    = ap (λ (z : Walk). z.c) u.ensures.put.walk
    ∙ ap (λ (z : Cursor). stepped_as f z m) (past-last b a.v a.step l.c l.e k l.left q l.invariant.0.rest a.v.words l.invariant.1 r.result r.ensures)
    ∙ sym (stepped_as_add f l.c k m) in
    (rw (x, n) w, rw n (reached_on f a.v.words l.c l.left l.invariant.1 (k + m) (omega arith) _ (x ∙ t) _ (omega arith)))

pub returns : goal.returns
unfolding coder
returns c =
    let a = c.args in
    let l = c.loop-left in
    written_end (next a.file.now a.v) (pages_coder a.step) a.dst.now a.c a.e a.n l.dst l.c l.e l.left c.loop-left-test.false l.invariant.0
