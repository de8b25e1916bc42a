use Rattle.std.proofs.Common.{◌≡◌, ◌+◌, ◌-◌, ◌*◌, ◌%◌, arith}
use Rattle.offsets.proofs.Falling.{falls-none, falls_block, falls_parts}
use Rattle.offsets.proofs.falls.falls_of.Goals as goal

pub loop-i-init : goal.loop-i-init
loop-i-init g c = (omega arith, falls-none _ _ _)

pub loop-i-preserved : goal.loop-i-preserved
loop-i-preserved g c =
    let a = c.args in
    let l = c.loop-i in
    let e : 128 * (l.i + 1) ≡ 128 * l.i + 128 = omega arith in
    let n = rw c.WIDTH.ensures at c.block-count.ensures.0 in
    (omega (arith, c.block-count.ensures.1), rw (e, n, l.invariant.1) (falls_block g.E.Entry.WIDTH (128 * l.i) 128 a.at a.file.now))

pub returns : goal.returns
returns g c =
    let a = c.args in
    let l = c.loop-i in
    let m = a.n - 1 in
    let e : 128 * l.i ≡ m - m % 128 = omega arith in
    let n = rw c.WIDTH-2.ensures at c.block.ensures.0 in
    rw (n, l.invariant.1, e) (falls_parts g.E.Entry.WIDTH a.n (m - m % 128) (m % 128) a.at a.file.now c.requires.0 (omega arith))
