use Rattle.std.proofs.Common.{length, sym, ◌∙◌, length-set}
use Rattle.wire.specs.Wire.{add32}
use Rattle.offsets.proofs.Summing.{sums_turn, sums-end}
use Rattle.offsets.proofs.sums.sums_of.Goals as goal

pub loop-i-preserved : goal.loop-i-preserved
unfolding add32
loop-i-preserved g c =
    let a = c.args in
    let l = c.loop-i in
    let x = add32 a.base c.get.result in (
      length-set l.out l.i x ∙ l.invariant.0,
      sums_turn g.E.Entry.WIDTH a.base a.at a.file.now (length a.out.now) l.out l.i x c.loop-i-test.true l.invariant.0
          (rw (c.get.ensures.0, c.WIDTH.ensures)) ∙ l.invariant.1,
    )

pub returns : goal.returns
returns g c =
    let a = c.args in
    let l = c.loop-i in
    sym (sums-end g.E.Entry.WIDTH a.base a.at a.file.now (length a.out.now) l.out l.i c.loop-i-test.false l.invariant.0) ∙ l.invariant.1
