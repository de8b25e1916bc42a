-- `runs_right` meets its contract. The loop's invariant is `Going`. Assumes nothing.
use Rattle.std.proofs.Common.{arith}
use Rattle.page_walk.proofs.Along.{going_none, going_first, going_on, going_done}
use Rattle.page_walk.proofs.check.runs_right.Goals as goal

pub returns-then-left-eq0 : goal.returns-then-left-eq0
returns-then-left-eq0 c = going_none _ _ c.requires c.if-left-eq0.true

pub loop-left-init : goal.loop-left-init
loop-left-init c =
    let n = c.if-left-eq0.false in
    let p = c.pair_falls-falls.ensures in
    going_first _ _ c.requires _ _ (omega arith) c.get_pair-first.ensures.0 p.0 p.1

pub loop-left-preserved : goal.loop-left-preserved
loop-left-preserved c =
    let x = c.get_pair.ensures in
    rw c.past_page-s.ensures
    (going_on _ _ _ _ _ _ _ _ _ _ c.loop-left.invariant _ _ c.loop-left-test.true x.0
    c.get_pair-in-loop-left.ensures.0 x.1 x.2)

pub returns : goal.returns
returns c =
    rw (c.from.ensures, c.from-2.ensures, c.from-3.ensures, c.from-4.ensures)
    (going_done _ _ _ _ _ _ _ _ _ _ c.loop-left.invariant c.get_pair-last.result c.loop-left-test.false c.get_pair-last.ensures.0)
