use Rattle.std.proofs.Common.{◌≡◌, ◌+◌, zero-add, arith}
use Rattle.wire.specs.Wire.{add32}
use Rattle.parts.proofs.Fills.{fill_start, fill_turn, fill_part}
use Rattle.parts.proofs.walk.fill_from.Goals as goal

pub loop-x-init : goal.loop-x-init
unfolding add32
loop-x-init c = (omega arith, fill_start _ _ _)

pub loop-x-preserved : goal.loop-x-preserved
unfolding add32
loop-x-preserved c =
    let l = c.loop-x in
    let q = l.invariant.0 in
    let i : 0 + l.x-index ≡ l.x-index = zero-add _ in
    (omega arith, rw i at (fill_turn c.args.p 0 l.x-index l.q _ l.x-items (omega arith) q l.invariant.1))

pub returns : goal.returns
returns c =
    let a = c.args in
    let l = c.loop-x in
    let e : l.x-index ≡ a.n = omega arith in
    fill_part a.p a.from a.n _ a.out.now l.x-items (omega arith) (omega arith) (rw e at l.invariant.1)
