use Prim.Native.Nat.{◌+◌, ◌-◌, ◌≤◌}
use mathlib.Core.Path.{sym, ◌∙◌}
use native.Mathlib.Omega.{arith}
use lib.ListN.{length, drop, get_or}
use Rattle.laws.proofs.Stored.{rising-length}
use Rattle.parts.proofs.Taken.{Writing, write_begin, write-next, write-end}
use Rattle.parts.specs.Batch.{grown}
use Rattle.page_entries.specs.Coding.{pages_coder}
use Rattle.page_entries.proofs.OneEntry.{keeps_pages, lengthens_pages}
use Rattle.page_entries.proofs.RunEnds.{Ended, end-here, last-here, grown-fits, next-run}
use Rattle.page_entries.proofs.batch.put_ends.Goals.{After-loop-end, In-loop-end, Start}
use Rattle.page_entries.proofs.batch.put_ends.Goals as goal

pub loop-end-init : goal.loop-end-init
loop-end-init c =
    let a = c.args in
    let f = c.requires in
    record {
      writing = write_begin (pages_coder a.step) a.ps.now a.e a.dst.now f.3 f.4;
      most = omega arith;
      opened = f.1;
      left = sym f.2;
    }

-- where the open run ends
here : (c : In-loop-end)
    → Ended (pages_coder c.args.step) c.args.ps.now c.args.e c.args.dst.now c.loop-end.at c.loop-end.dst
    c.loop-end.taken (get_or c.args.ends.now c.loop-end.end-index 0) (drop (c.loop-end.end-index + 1) c.args.ends.now)
here c =
    let a = c.args in
    let l = c.loop-end in
    end-here (pages_coder a.step) (lengthens_pages a.step) (keeps_pages a.step) a.ps.now a.e a.dst.now l.dst l.at l.taken a.ends.now l.end-index
    l.invariant (omega arith)

-- there are at most as many positions as cells
few : (c : Start) → length c.args.ps.now ≤ 16777216
few c =
    let along = c.requires.3 in
    omega (arith, rising-length _ 16777216 c.args.ps.now along.sound.passed-most along.rising)

pub overflow_sub-end : goal.overflow_sub-end
overflow_sub-end c = let h = (here (goal.at.overflow_sub-end c).In-loop-end).low in omega arith

pub grow-requires : goal.grow-requires
grow-requires c =
    let a = c.args in
    let l = c.loop-end in
    grown-fits (pages_coder a.step) (lengthens_pages a.step) (keeps_pages a.step) a.ps.now a.e a.dst.now l.dst l.at _ _
    (here (goal.at.grow-requires c).In-loop-end).writing

pub put_entry-at-requires : goal.put_entry-at-requires
put_entry-at-requires c =
    let a = c.args in
    let l = c.loop-end in
    let h = here (goal.at.put_entry-at-requires c).In-loop-end in
    let n = write-next (pages_coder a.step) a.ps.now a.e a.dst.now _ l.dst _ h.high h.writing in
    rw c.grow.ensures (n.0, n.1, c.requires.0, h.breaks)

pub loop-end-preserved : goal.loop-end-preserved
loop-end-preserved c =
    let a = c.args in
    let l = c.loop-end in
    let o = c.put_entry-at in
    let g = c.grow.ensures in
    let e = rw g at o.ensures in
    next-run (pages_coder a.step) (lengthens_pages a.step) (keeps_pages a.step) a.ps.now a.e a.dst.now l.dst l.at l.taken _ _
    (here (goal.at.loop-end-preserved c).In-loop-end) o.result o.new.dst e

-- the open run goes on to the last position
whole : (c : After-loop-end)
    → Writing (pages_coder c.args.step) c.args.ps.now c.args.e c.args.dst.now
    (grown c.loop-end.at (length c.args.ps.now - c.loop-end.taken)) c.loop-end.dst (length c.args.ps.now)
whole c =
    let a = c.args in
    let l = c.loop-end in
    last-here (pages_coder a.step) (lengthens_pages a.step) (keeps_pages a.step) a.ps.now a.e a.dst.now l.dst l.at l.taken a.ends.now l.end-index
    l.invariant (omega arith)

pub grow-requires-2 : goal.grow-requires-2
grow-requires-2 c =
    let a = c.args in
    let l = c.loop-end in
    grown-fits (pages_coder a.step) (lengthens_pages a.step) (keeps_pages a.step) a.ps.now a.e a.dst.now l.dst l.at _ _ (whole c)

pub returns : goal.returns
returns c =
    let a = c.args in
    let l = c.loop-end in
    let w = write-end (pages_coder a.step) a.ps.now a.e a.dst.now _ l.dst _ (omega arith) (whole (goal.at.returns c).After-loop-end) in
    (c.grow-2.ensures ∙ w.0, w.1)

pub overflow_cast-end : goal.overflow_cast-end
overflow_cast-end c = let h = (here (goal.at.overflow_cast-end c).In-loop-end).high in let n = few (goal.at.overflow_cast-end c).Start in record { fits = omega arith }

pub offset_bounds-ps-end : goal.offset_bounds-ps-end
offset_bounds-ps-end c = let h = (here (goal.at.offset_bounds-ps-end c).In-loop-end).high in let n = few (goal.at.offset_bounds-ps-end c).Start in omega arith

pub bounds-ps-end : goal.bounds-ps-end
bounds-ps-end c = let h = (here (goal.at.bounds-ps-end c).In-loop-end).high in omega arith

pub overflow_add-taken : goal.overflow_add-taken
overflow_add-taken c = let h = (here (goal.at.overflow_add-taken c).In-loop-end).high in let n = few (goal.at.overflow_add-taken c).Start in omega arith

pub overflow_cast-ps : goal.overflow_cast-ps
overflow_cast-ps c = let n = few (goal.at.overflow_cast-ps c).Start in omega arith

pub overflow_sub-ps : goal.overflow_sub-ps
overflow_sub-ps c = let h = c.loop-end.invariant.most in omega arith
