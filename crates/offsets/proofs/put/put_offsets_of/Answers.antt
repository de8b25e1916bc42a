use Rattle.std.proofs.Common.{length, sym, ap, ◌∙◌, rules}
use Rattle.laws.proofs.Positions.{rising-at}
use Rattle.stores.proofs.Laws.{length-put}
use Rattle.offsets.proofs.Putting.{over_turn, over-end}
use Rattle.offsets.proofs.put.put_offsets_of.Goals as goal

pub overflow_sub-p : goal.overflow_sub-p
overflow_sub-p g c =
    let h = rising-at c.args.base 16777216 c.args.ps.now c.loop-i.i c.requires.0 c.loop-i-test.true in
    search rules

pub loop-i-preserved : goal.loop-i-preserved
loop-i-preserved g c =
    let a = c.args in
    let l = c.loop-i in
    let e = rw c.WIDTH.ensures at c.put.ensures in
    (ap length e ∙ length-put l.dst _ _ ∙ l.invariant.0, rw e (over_turn g.E.Entry.WIDTH l.dst a.at a.base a.ps.now l.i c.loop-i-test.true ∙ l.invariant.1))

pub returns : goal.returns
returns g c =
    let a = c.args in
    let l = c.loop-i in
    sym (over-end g.E.Entry.WIDTH l.dst a.at a.base a.ps.now l.i c.loop-i-test.false) ∙ l.invariant.1
