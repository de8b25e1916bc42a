-- What is left to put out gives the whole. Assumes nothing.
use Rattle.std.proofs.Common.{◌+◌, ◌-◌, ◌*◌, sym, ◌∙◌, arith}
use Rattle.laws.proofs.Positions.{rising_le}
use Rattle.difference_rows.proofs.PutTurns.{put-difference, differences-put}
use Rattle.difference_rows.proofs.put.put_entries.Goals as goal

pub stored_difference-d-requires : goal.stored_difference-d-requires
stored_difference-d-requires g c =
    let l = c.loop-i in
    let w = rw (← c.WIDTH.ensures) at g.met.E.Entry.one_or_two in
    (rising_le 0 16777216 c.args.ps.now (l.i - 1) l.i c.requires.0 (omega arith) c.loop-i-test.true, w.0, w.1)

pub loop-i-preserved : goal.loop-i-preserved
loop-i-preserved g c =
    let a = c.args in
    let l = c.loop-i in
    let d = rw c.WIDTH.ensures at c.stored_difference-d.ensures in
    let o = rw c.WIDTH-in-loop-i.ensures at c.put.ensures in
    put-difference g.E.Entry.WIDTH a.ps.now l.i l.auto.i c.loop-i-test.true a.at l.dst d o ∙ l.invariant

pub returns : goal.returns
returns g c =
    let a = c.args in
    let l = c.loop-i in
    let w = g.E.Entry.WIDTH in
    sym (differences-put w a.ps.now l.i c.loop-i-test.false (a.at + w * l.i) l.dst) ∙ l.invariant
