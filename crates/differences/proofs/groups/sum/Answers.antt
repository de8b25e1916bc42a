-- The sum of a group. Assumes nothing.
use native.Mathlib.Omega.{arith}
use Rattle.differences.proofs.Sums.{total_start, total-next}
use Rattle.differences.proofs.groups.sum.Goals as goal

pub loop-k-init : goal.loop-k-init
loop-k-init c = let a = c.args in (omega arith, total_start a.width a.second a.file.now a.r)

pub loop-k-preserved : goal.loop-k-preserved
loop-k-preserved c =
    let a = c.args in
    let l = c.loop-k in
    let d = c.difference-x.ensures in
    let d1 = d.1 in
    (omega arith, total-next a.width a.second a.file.now a.r l.k d.0 l.invariant.1)
