-- `compare` meets its contract. Assumes nothing.
use Rattle.levels.specs.Levels.{span_of}
use Rattle.levels.proofs.Above.{compared_path}
use Rattle.levels.proofs.check.compare.Goals as goal

-- `compare` meets its contract. Assumes nothing.
pub returns : goal.returns
returns c =
    let a = c.args in
    let b1 = c.before_of.ensures.0 in
    let x1 = c.from.ensures in
    let b2 = c.before_of-2.ensures.0 in
    let x2 = c.from-2.ensures in
    let u1 = c.from-3.ensures in
    let u2 = c.from-4.ensures in
    compared_path a.step a.s a.u (span_of a.x) _ _ _ _ _ c.left_after.ensures (rw (b1, x1)) (rw (b2, x2)) u1 u2
