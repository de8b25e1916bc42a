-- The zeros of a group or fewer. Assumes nothing.
use Rattle.std.proofs.Common.{◌∙◌, arith}
use Rattle.differences.proofs.Sums.{zeros_start, zeros-counted}
use Rattle.differences.proofs.groups.count_zeros.Goals as goal

pub loop-k-init : goal.loop-k-init
loop-k-init g c =
    let a = c.args in
    let z = c.none-count.ensures in
    (omega (arith, z), z ∙ zeros_start g.E.Entry.WIDTH a.second a.file.now a.r)

pub loop-k-preserved : goal.loop-k-preserved
loop-k-preserved g c =
    let a = c.args in
    let l = c.loop-k in
    let z = zeros-counted g.E.Entry.WIDTH a.second a.file.now a.r l.k (rw c.WIDTH.ensures at c.get-d.ensures.0) l.invariant.1 c.one_more-count.ensures in
    (omega (arith, z.0, l.invariant.0), z.1)
