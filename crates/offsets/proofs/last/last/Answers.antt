use Rattle.std.proofs.Common.{◌≡◌, ◌+◌, ◌*◌, leb, refl, arith}
use Rattle.wire.specs.Wire.{whole}
use Rattle.parts.proofs.Last.{passing-none, last-zero, last-counted}
use Rattle.offsets.proofs.Searching.{entry_there, last_past, passing_turn}
use Rattle.offsets.proofs.last.last.Goals as goal

pub returns-then-file-at : goal.returns-then-file-at
returns-then-file-at g c =
    let a = c.args in
    let h = rw (c.WIDTH.ensures, c.WIDTH-2.ensures) at c.if-file-at.true in
    last-zero _ a.n a.x (last_past g.E.Entry.WIDTH a.second a.rank a.n a.file.now c.requires h)

pub loop-i-init : goal.loop-i-init
loop-i-init g c = (omega arith, passing-none _)

pub loop-i-preserved : goal.loop-i-preserved
loop-i-preserved g c =
    let a = c.args in
    let l = c.loop-i in
    let w = g.E.Entry.WIDTH in
    let h = rw (c.WIDTH.ensures, c.WIDTH-2.ensures) at c.if-file-at.false in
    let x = entry_there w a.second a.rank a.n a.file.now l.i c.get.result c.loop-i-test.true h (rw (c.WIDTH.ensures, c.WIDTH-in-loop-i.ensures) at c.get.ensures.0) in (
      omega arith,
      rw l.invariant.1 (passing_turn (λ k. leb (whole w (a.second + w * (a.rank + k)) a.file.now) a.x) l.i c.counted.result l.auto.i (rw x at c.counted.ensures.0)),
    )

pub returns : goal.returns
returns g c =
    let a = c.args in
    let l = c.loop-i in
    let w = g.E.Entry.WIDTH in
    let e : l.i ≡ a.n = omega arith in
    last-counted (λ k. whole w (a.second + w * (a.rank + k)) a.file.now) (λ k. whole w (a.second + w * (a.rank + k)) a.file.now) a.n a.x l.count c.requires (λ k. refl)
    (rw e at l.invariant.1) (omega arith)
