use Rattle.std.proofs.Common.{arith}
use Rattle.parts.proofs.Taken.{write_begin, write-end}
use Rattle.page_entries.specs.Coding.{pages_coder, coder}
use Rattle.page_walk.proofs.Allowed.{page-step}
use Rattle.paged_runs.proofs.coding.put_all.Goals as goal

-- of no positions
pub returns-then-ps-eq0 : goal.returns-then-ps-eq0
unfolding coder
returns-then-ps-eq0 c =
    let a = c.args in
    let z = c.if-ps-eq0.true in
    write-end (pages_coder a.step) a.ps.now a.e a.dst.now a.e a.dst.now 0 (omega arith)
    (write_begin (pages_coder a.step) a.ps.now a.e a.dst.now c.requires.1 c.requires.2)

pub put_each-requires : goal.put_each-requires
unfolding coder
put_each-requires c =
    let s = (page-step c.args.width c.args.step c.requires.0).0 in
    (omega arith, c.requires.1, c.requires.2)

pub returns-then-ps-gt-BATCH : goal.returns-then-ps-gt-BATCH
unfolding coder
returns-then-ps-gt-BATCH c = c.put_each.ensures

pub put_batch-requires : goal.put_batch-requires
unfolding coder
put_batch-requires c =
    let s = (page-step c.args.width c.args.step c.requires.0).0 in
    let z = c.if-ps-eq0.false in
    let n = c.if-ps-gt-BATCH.false in
    (omega arith, omega arith, omega arith, c.requires.1, c.requires.2)

pub returns : goal.returns
unfolding coder
returns c = c.put_batch.ensures
