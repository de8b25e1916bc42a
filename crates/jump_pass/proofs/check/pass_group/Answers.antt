-- A pass over a group, by its sum where it holds no jump. Assumes nothing.
use mathlib.Core.Path.{sym, ◌∙◌}
use borrow.Author.Tests.{eq-eqb}
use Rattle.differences.proofs.Sums.{none-counted}
use Rattle.jump_pass.proofs.Groups.{group_goes}
use Rattle.jump_pass.proofs.check.pass_group.Goals as goal

pub returns-then-zeros-eq0 : goal.returns-then-zeros-eq0
returns-then-zeros-eq0 c =
    let x = c.sum.ensures in
    group_goes _ _ _ _ _ _ c.requires.0 c.if-i-gt0.true c.if-end-i-eq128.true
    (sym (none-counted _ _ _ _ 128 c.zeros.ensures.0) ∙ eq-eqb _ 0 c.if-zeros-eq0.true) x.0 x.1
