use native.Mathlib.Omega.{arith}
use Rattle.parts.proofs.Taken.{write-next, write_turn, write-end}
use Rattle.run_pairs.specs.Coding.{runs_coder}
use Rattle.run_pairs.proofs.Adds.{keeps}
use Rattle.run_pairs.proofs.batch.put_each.Goals as goal

pub put_one-at-requires : goal.put_one-at-requires
put_one-at-requires c =
    let a = c.args in
    let l = c.loop-p in
    let n = write-next runs_coder a.ps.now a.e a.dst.now l.at l.dst l.p-index c.loop-p-test.true l.invariant in
    (n.0, n.1)

pub loop-p-preserved : goal.loop-p-preserved
loop-p-preserved c =
    let a = c.args in
    let l = c.loop-p in
    let o = c.put_one-at in
    write_turn runs_coder a.ps.now a.e a.dst.now l.at l.dst l.p-index c.loop-p-test.true l.invariant keeps
    o.result o.new.dst o.ensures

pub returns : goal.returns
returns c =
    let a = c.args in
    let l = c.loop-p in
    write-end runs_coder a.ps.now a.e a.dst.now l.at l.dst l.p-index (omega arith) l.invariant
