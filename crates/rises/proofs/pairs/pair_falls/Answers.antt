use Rattle.std.proofs.Common.{◌∙◌, arith}
use Rattle.rises.proofs.Falls.{pairs_turn, pairs_end}
use Rattle.rises.proofs.pairs.pair_falls.Goals as goal

pub loop-i-preserved : goal.loop-i-preserved
loop-i-preserved c =
    let a = c.args in
    let l = c.loop-i in
    let m = c.fall-count.ensures.1 in (
      omega arith,
      pairs_turn a.n l.i a.at l.count c.fall-count.result _ c.loop-i-test.true
          (rw (c.get_pair.ensures.0, c.get_pair-in-loop-i.ensures.0) at c.fall-count.ensures.0)
          ∙ l.invariant.1,
    )

pub returns : goal.returns
returns c =
    let a = c.args in
    let l = c.loop-i in
    (pairs_end a.n l.i a.at l.count _ c.loop-i-test.false ∙ l.invariant.1, omega arith)
