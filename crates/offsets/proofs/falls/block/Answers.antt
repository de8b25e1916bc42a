use Rattle.std.proofs.Common.{◌∙◌, arith}
use Rattle.offsets.proofs.Falling.{one-more, falls-none, falls_next}
use Rattle.offsets.proofs.falls.block.Goals as goal

pub loop-i-init : goal.loop-i-init
loop-i-init g c = (omega (arith, c.none-count.ensures), c.none-count.ensures ∙ falls-none _ _ _)

pub loop-i-preserved : goal.loop-i-preserved
loop-i-preserved g c =
    let a = c.args in
    let l = c.loop-i in
    let n = rw (c.get.ensures.0, c.get-in-loop-i.ensures.0, c.WIDTH.ensures, c.WIDTH-in-loop-i.ensures) at c.one_more-count.ensures in
    (one-more _ l.i c.one_more-count.ensures l.invariant.0, rw (n, l.invariant.1) (falls_next g.E.Entry.WIDTH l.i a.at a.file.now))
