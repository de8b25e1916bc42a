-- Whether 16 differences hold no jump. Assumes nothing.
use Rattle.differences.proofs.Sums.{plain_start, plain-next}
use Rattle.difference_rows.proofs.batch.no_jump.Goals as goal

pub loop-k-init : goal.loop-k-init
loop-k-init c = let a = c.args in plain_start 1 a.second a.file.now a.r

pub loop-k-preserved : goal.loop-k-preserved
loop-k-preserved c =
    let a = c.args in
    let l = c.loop-k in
    plain-next 1 a.second a.file.now a.r l.k c.difference.ensures.0 l.invariant
