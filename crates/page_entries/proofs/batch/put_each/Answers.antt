use native.Mathlib.Omega.{arith}
use Rattle.parts.proofs.Taken.{write_begin, write-next, write_turn, write-end}
use Rattle.page_entries.specs.Coding.{pages_coder}
use Rattle.page_entries.proofs.OneEntry.{keeps_pages}
use Rattle.page_entries.proofs.batch.put_each.Goals as goal

pub loop-p-init : goal.loop-p-init
loop-p-init c =
    let a = c.args in
    write_begin (pages_coder a.step) a.ps.now a.e a.dst.now c.requires.1 c.requires.2

pub pages_put-at-requires : goal.pages_put-at-requires
pages_put-at-requires c =
    let a = c.args in
    let l = c.loop-p in
    let n = write-next (pages_coder a.step) a.ps.now a.e a.dst.now l.at l.dst l.p-index (omega arith) l.invariant in
    (n.0, n.1, c.requires.0)

pub loop-p-preserved : goal.loop-p-preserved
loop-p-preserved c =
    let a = c.args in
    let l = c.loop-p in
    let o = c.pages_put-at in
    write_turn (pages_coder a.step) a.ps.now a.e a.dst.now l.at l.dst l.p-index (omega arith) l.invariant (keeps_pages a.step)
    o.result o.new.dst o.ensures

pub returns : goal.returns
returns c =
    let a = c.args in
    let l = c.loop-p in
    write-end (pages_coder a.step) a.ps.now a.e a.dst.now l.at l.dst l.p-index (omega arith) l.invariant
