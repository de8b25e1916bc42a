-- `make` meets its contract. Assumes nothing.
use mathlib.Core.Path.{◌≡◌, sym, ◌∙◌}
use lib.ListN.{length}
use Rattle.laws.proofs.Refusals.{accepted_at, handed_on, handed_least}
use Rattle.making.specs.Known.{picture_number}
use Rattle.making.proofs.Making.{picture_right, measured_fitting, measured_number, measured_goes, make_refused, make_unfit, make_done}
use Rattle.making.proofs.make.Goals.{In_ok-check_picture}
use Rattle.making.proofs.make.Goals as goal

known : (c : In_ok-check_picture) → picture_number c.args.s c.args.d (length c.args.words.now) ≡ 0
known c = accepted_at _ _ c.check_picture.ensures _ c.in_ok-check_picture.was

pub returns-in_err-check_picture : goal.returns-in_err-check_picture
returns-in_err-check_picture c =
    let g = c.args in
    let h = handed_on _ _ c.in_err-check_picture.was _ c.from_residual.ensures.1 in
    let l = handed_least _ _ c.in_err-check_picture.was _ c.from_residual.ensures.1 in
    make_refused g.s g.d g.empty g.words.now g.dst.now _ (h ∙ c.check_picture.ensures) l

pub measure-requires : goal.measure-requires
measure-requires c =
    let g = c.args in
    let r = picture_right g.s g.d (length g.words.now) (known (goal.at.measure-requires c).In_ok-check_picture) in
    (r.setting, r.few)

pub going-requires : goal.going-requires
going-requires c =
    let g = c.args in
    measured_fitting g.s g.d g.empty g.words.now (known (goal.at.going-requires c).In_ok-check_picture) _ c.measure.ensures

pub returns-in_err-z : goal.returns-in_err-z
returns-in_err-z c =
    let g = c.args in
    let p = known (goal.at.returns-in_err-z c).In_ok-check_picture in
    let h = handed_on _ _ c.in_err-z.was _ c.from_residual-in_err-z.ensures.1 in
    let l = handed_least _ _ c.in_err-z.was _ c.from_residual-in_err-z.ensures.1 in
    make_unfit g.s g.d g.empty g.words.now g.dst.now p _
    (measured_number g.s g.d g.empty g.words.now p _ c.measure.ensures _ _ (h ∙ c.going.ensures.0)) l

pub put_picture-requires : goal.put_picture-requires
put_picture-requires c =
    let g = c.args in
    let p = known (goal.at.put_picture-requires c).In_ok-check_picture in
    let z = accepted_at _ _ c.going.ensures.0 _ c.in_ok-z.was in
    let e = rw c.in_ok-z.was at c.going.ensures.1 in
    measured_goes g.s g.d g.empty g.words.now p _ c.measure.ensures _ z _ e

pub returns : goal.returns
returns c =
    let g = c.args in
    let p = known (goal.at.returns c).In_ok-check_picture in
    let z = accepted_at _ _ c.going.ensures.0 _ c.in_ok-z.was in
    make_done g.s g.d g.empty g.words.now g.dst.now p _
    (sym (measured_number g.s g.d g.empty g.words.now p _ c.measure.ensures _ 0 (sym z)))
    c.put_picture.ensures
