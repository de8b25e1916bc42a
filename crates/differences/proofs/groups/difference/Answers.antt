-- The difference of a rank, at each width. Assumes nothing.
use Prim.Native.Nat.{◌*◌}
use mathlib.Core.Path.{◌≡◌}
use native.Mathlib.Omega.{arith}
use Rattle.wire.proofs.Laws.{other_width}
use Rattle.differences.proofs.groups.difference.Goals.{Else-width-eq1, Then-width-eq1}
use Rattle.differences.proofs.groups.difference.Goals as goal

-- The difference of a rank, at each width. Assumes nothing.
two : (c : Else-width-eq1) → c.args.width ≡ 2
two c = other_width _ c.requires.0 c.requires.1 c.if-width-eq1.false

pub returns-then-width-eq1 : goal.returns-then-width-eq1
returns-then-width-eq1 c =
    let i = c.args.i in
    let e : 1 * i ≡ i = omega arith in
    (rw (c.if-width-eq1.true, e) c.get_u8.ensures.0, omega arith)

pub returns : goal.returns
returns c = (rw (two (goal.at.returns c).Else-width-eq1) c.get_u16.ensures.0, c.get_u16.ensures.1)
