use Rattle.std.proofs.Common.{arith}
use Rattle.parts.proofs.Taken.{measure_begin, measure_next, measure_turn, measure_end}
use Rattle.page_entries.specs.Coding.{pages_coder, coder}
use Rattle.page_walk.proofs.Allowed.{page-step}
use Rattle.page_entries.proofs.OneEntry.{keeps_pages}
use Rattle.paged_runs.proofs.coding.take_all.Goals as goal

pub loop-p-init : goal.loop-p-init
loop-p-init c =
    let a = c.args in
    measure_begin (pages_coder a.step) a.ps.now a.e c.requires.1

pub pages_taken-at-requires : goal.pages_taken-at-requires
pages_taken-at-requires c =
    let a = c.args in
    let l = c.loop-p in
    let s = (page-step a.width a.step c.requires.0).0 in
    (measure_next (pages_coder a.step) a.ps.now a.e l.at l.p-index (omega arith) l.invariant, omega arith)

pub loop-p-preserved : goal.loop-p-preserved
loop-p-preserved c =
    let a = c.args in
    let l = c.loop-p in
    measure_turn (pages_coder a.step) a.ps.now a.e l.at l.p-index (omega arith) (keeps_pages a.step) l.invariant c.pages_taken-at.result c.pages_taken-at.ensures

pub returns : goal.returns
unfolding coder
returns c =
    let a = c.args in
    let l = c.loop-p in
    measure_end (pages_coder a.step) a.ps.now a.e l.at l.p-index (omega arith) l.invariant
