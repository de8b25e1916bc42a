use mathlib.Core.Path.{◌≡◌, ◌∙◌}
use Rattle.std.proofs.lemmas.Result.{IfOk-at_ok}
use Rattle.format.specs.Accepted.{check_number}
use Rattle.laws.proofs.Refusals.{accepted_at, handed_on, handed_least}
use Rattle.parts.specs.Holds.{ViewOf}
use Rattle.lent_parts.proofs.Choice.{first-number, second-number, other_picture, same_picture_lem}
use Rattle.lent_parts.proofs.shorter.check_shorter.Goals.{In_ok-v, In_ok-w}
use Rattle.lent_parts.proofs.shorter.check_shorter.Goals as goal

pub returns-in_err-v : goal.returns-in_err-v
returns-in_err-v c =
    let a = c.args in
    let h = handed_on _ _ c.in_err-v.was _ c.from_residual.ensures.1 in
    let l = handed_least _ _ c.in_err-v.was _ c.from_residual.ensures.1 in
    first-number a.first.now a.second.now _ (h ∙ c.check.ensures.number) l

-- each file is accepted
first-right : (c : In_ok-v) → check_number c.args.first.now ≡ 0
first-right c = accepted_at _ _ c.check.ensures.number _ c.in_ok-v.was

second-right : (c : In_ok-w) → check_number c.args.second.now ≡ 0
second-right c = accepted_at _ _ c.check-2.ensures.number _ c.in_ok-w.was

pub returns-in_err-w : goal.returns-in_err-w
returns-in_err-w c =
    let a = c.args in
    let h = handed_on _ _ c.in_err-w.was _ c.from_residual-in_err-w.ensures.1 in
    let l = handed_least _ _ c.in_err-w.was _ c.from_residual-in_err-w.ensures.1 in
    second-number a.first.now a.second.now (first-right (goal.at.returns-in_err-w c).In_ok-v) _ (h ∙ c.check-2.ensures.number) l

pub same_picture-requires : goal.same_picture-requires
same_picture-requires c =
    let a = c.args in
    (IfOk-at_ok (ViewOf a.first.now) c.in_ok-v.was c.check.ensures.view, IfOk-at_ok (ViewOf a.second.now) c.in_ok-w.was c.check-2.ensures.view)

pub returns-then-not-same_picture : goal.returns-then-not-same_picture
returns-then-not-same_picture c =
    let a = c.args in
    let s = c.same_picture in
    let g = goal.at.returns-then-not-same_picture c in
    other_picture a.first.now a.second.now (first-right g.In_ok-v) (second-right g.In_ok-w) s.result s.ensures c.if-not-same_picture.true

pub returns : goal.returns
returns c =
    let a = c.args in
    let s = c.same_picture in
    let g = goal.at.returns c in
    same_picture_lem a.first.now a.second.now (first-right g.In_ok-v) (second-right g.In_ok-w) s.result s.ensures c.if-not-same_picture.false
