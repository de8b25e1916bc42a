use Rattle.std.proofs.Common.{suc, ◌/◌, mul-le-mul_left, arith}
use Rattle.parts.proofs.Last.{left_eighth, left_rest}
use Rattle.run_search.specs.Before.{before_by}
use Rattle.run_search.proofs.Before.{found}
use Rattle.run_search.proofs.search.last_run.Goals as goal

pub loop-size-preserved : goal.loop-size-preserved
loop-size-preserved g c =
    let a = c.args in
    let l = c.loop-size in
    let i = l.invariant in
    let m = mul-le-mul_left (l.size / 8) c.parts_passed.ensures.1 in (
      i.0,
      i.1,
      omega arith,
      omega arith,
      λ h x t.
          left_eighth (before_by h a.file.now a.start) (suc a.n) x l.low l.size (i.4 h x t) c.parts_passed.result c.loop-size-test.true
          (c.parts_passed.ensures.0 h x t) c.parts_passed.ensures.1,
    )

pub returns : goal.returns
returns g c = λ h x t.
    let a = c.args in
    let l = c.loop-size in
    found (before_by h a.file.now a.start) a.file.now a.start a.n x _
    (left_rest (before_by h a.file.now a.start) (suc a.n) x l.low l.size (l.invariant.4 h x t) c.parts_passed-low.result (c.parts_passed-low.ensures.0 h x t) c.parts_passed-low.ensures.1)
