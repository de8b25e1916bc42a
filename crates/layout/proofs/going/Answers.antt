-- `going` meets its contract. Assumes nothing.
use mathlib.Core.Path.{◌≡◌}
use Rattle.std.specs.Prelude.{Some}
use Rattle.std.proofs.lemmas.Result.{err_from_is_err_and}
use Rattle.layout.proofs.Out.{some_by, none_by, out-unfit, out-small, out-fits}
use Rattle.layout.proofs.going.Goals.{In_ok-z}
use Rattle.layout.proofs.going.Goals as goal

some : (c : In_ok-z) → c.args.m ≡ Some c.in_ok-z.z
some c = some_by _ _ _ c.ok_or.ensures.value _ c.in_ok-z.was

pub returns-in_err-z : goal.returns-in_err-z
returns-in_err-z c =
    let n = none_by _ _ _ c.ok_or.ensures.value _ c.in_err-z.was in
    let p = err_from_is_err_and c.from_residual.result c.from_residual.ensures.1 in
    rw (p.1, p.2, n.1) (out-unfit c.args.m c.args.room n.0, tt)

pub total-requires : goal.total-requires
total-requires c = rw (some (goal.at.total-requires c).In_ok-z) at c.requires

pub returns-then-room-total : goal.returns-then-room-total
returns-then-room-total c =
    (out-small c.args.m c.args.room _ (some (goal.at.returns-then-room-total c).In_ok-z) (rw c.total.ensures at c.if-room-total.true), tt)

pub returns : goal.returns
returns c =
    let e = some (goal.at.returns c).In_ok-z in
    (out-fits c.args.m c.args.room _ e (rw c.total.ensures at c.if-room-total.false), e)
