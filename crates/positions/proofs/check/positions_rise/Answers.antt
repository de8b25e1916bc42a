use Rattle.std.proofs.Common.{◌+◌, ◌-◌, ◌*◌, ◌<◌, drop, sym, ◌∙◌, arith}
use Rattle.format.specs.Bytes.{numbers_of}
use Rattle.positions.proofs.Climb.{rises-climbs, rises-none, climb_first, climb_turn, climb_end}
use Rattle.positions.proofs.check.positions_rise.Goals as goal

pub returns-then-n-eq0 : goal.returns-then-n-eq0
returns-then-n-eq0 c =
    let a = c.args in
    sym (rises-none 4 a.cells a.n (drop a.at a.file.now) c.if-n-eq0.true)

pub loop-i-init : goal.loop-i-init
loop-i-init c =
    let a = c.args in
    let z : 0 < a.n = omega arith in
    rw c.get_u32-before.ensures.0
    (climb_first 4 a.n a.at a.cells a.file.now z ∙ sym (rises-climbs 0 a.cells (numbers_of 4 a.n (drop a.at a.file.now)) (omega arith)))

pub loop-i-preserved : goal.loop-i-preserved
loop-i-preserved c =
    let a = c.args in
    let l = c.loop-i in
    rw c.get_u32-p.ensures.0 (climb_turn 4 a.n a.at l.i l.before a.cells a.file.now l.right (omega arith) ∙ l.invariant)

pub returns : goal.returns
returns c =
    let a = c.args in
    let l = c.loop-i in
    climb_end 4 (a.n - l.i) l.before a.cells (drop (a.at + 4 * l.i) a.file.now) l.right (omega arith) ∙ l.invariant
