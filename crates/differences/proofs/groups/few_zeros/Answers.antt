-- The zeros of fewer than a group, at each width. Assumes nothing.
use mathlib.Core.Path.{◌≡◌}
use Rattle.wire.proofs.Laws.{other_width}
use Rattle.differences.proofs.Sums.{zeros-most}
use Rattle.differences.proofs.groups.few_zeros.Goals.{Else-width-eq1}
use Rattle.differences.proofs.groups.few_zeros.Goals as goal

-- The zeros of fewer than a group, at each width. Assumes nothing.
two : (c : Else-width-eq1) → c.args.width ≡ 2
two c = let z = c.requires.0 in other_width _ z.narrow z.wide c.if-width-eq1.false

pub returns-then-width-eq1 : goal.returns-then-width-eq1
returns-then-width-eq1 c =
    let a = c.args in
    let e = c.count_zeros.ensures in
    rw c.if-width-eq1.true (e, rw e (zeros-most 1 a.second a.file.now a.r a.n))

pub returns : goal.returns
returns c =
    let a = c.args in
    let e = c.count_zeros-2.ensures in
    rw (two (goal.at.returns c).Else-width-eq1) (e, rw e (zeros-most 2 a.second a.file.now a.r a.n))
