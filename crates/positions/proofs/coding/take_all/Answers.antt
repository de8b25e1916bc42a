use Rattle.std.proofs.Common.{◌+◌, ◌≤◌, length, arith}
use Rattle.laws.proofs.Stored.{rising-length}
use Rattle.parts.specs.Ready.{passed}
use Rattle.positions.proofs.Laws.{taken_none, taken-some}
use Rattle.positions.proofs.coding.take_all.Goals.{Start}
use Rattle.positions.proofs.coding.take_all.Goals as goal

-- the positions are not more than the cells left
few : (c : Start) → c.args.e.rank + length c.args.ps.now ≤ 16777216
few c =
    let a = c.requires.1 in
    let n = rising-length (passed c.args.e) 16777216 c.args.ps.now a.sound.passed-most a.rising in
    let m = a.sound.empty-most in
    omega arith

pub returns-then-n-eq0 : goal.returns-then-n-eq0
returns-then-n-eq0 c = let a = c.args in taken_none a.width a.step a.e a.ps.now c.if-n-eq0.true

pub overflow_cast-result : goal.overflow_cast-result
overflow_cast-result c = let n = few (goal.at.overflow_cast-result c).Start in record { fits = omega arith }

pub overflow_add-result : goal.overflow_add-result
overflow_add-result c = let n = few (goal.at.overflow_add-result c).Start in record { fits = omega arith }

pub returns : goal.returns
returns c =
    let a = c.args in
    taken-some a.width a.step a.e a.ps.now c.if-n-eq0.false
