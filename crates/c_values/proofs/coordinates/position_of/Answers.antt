use mathlib.Core.Path.{◌≡◌}
use Rattle.std.proofs.lemmas.Result.{err_from_is_err_and, IfOk-at_ok}
use Rattle.format.specs.declared.Dimensions.{Dimensions}
use Rattle.laws.proofs.Tools.{ok_is, err_is}
use Rattle.laws.proofs.Refusals.{refused_at}
use Rattle.header.proofs.CoordinateAnswers.{position_extent}
use Rattle.c_values.specs.Extents.{dimensions}
use Rattle.c_values.proofs.Four.{not-four, extents_other, extents_refused}
use Rattle.c_values.proofs.CoordinateCalls.{position-not-four}
use Rattle.c_values.proofs.coordinates.position_of.Goals.{In_ok-d}
use Rattle.c_values.proofs.coordinates.position_of.Goals as goal

-- the dimensions by the extents as they were lent
same : (c : In_ok-d) → c.in_ok-d.d ≡ dimensions c.args.dims c.args.extents.now
same c = IfOk-at_ok (λ (d : Dimensions). d ≡ dimensions c.args.dims c.args.extents.now) c.in_ok-d.was c.dimensions_of.ensures.1

pub returns-in_err-d : goal.returns-in_err-d
returns-in_err-d c =
    let a = c.args in
    let d = dimensions a.dims a.extents.now in
    let r = refused_at _ _ c.dimensions_of.ensures.0 _ c.in_err-d.was in
    let p = err_from_is_err_and c.from_residual.result c.from_residual.ensures.1 in
    rw (p.1, p.2, r.0, extents_refused a.extents.now r.1) (position_extent d a.at.now (not-four d (extents_other a.extents.now r.1)))

pub returns-in_err-ok_or : goal.returns-in_err-ok_or
returns-in_err-ok_or c =
    let a = c.args in
    let e = err_is _ _ _ _ _ c.cell_count.ensures.0 c.ok_or.ensures.value _ c.in_err-ok_or.was in
    let p = err_from_is_err_and c.from_residual-in_err-ok_or.result c.from_residual-in_err-ok_or.ensures.1 in
    rw (p.1, p.2, e.1) (position_extent (dimensions a.dims a.extents.now) a.at.now (rw (same (goal.at.returns-in_err-ok_or c).In_ok-d) at e.0))

pub returns-in_err-at : goal.returns-in_err-at
returns-in_err-at c =
    let a = c.args in
    let s = (ok_is _ _ _ _ _ c.cell_count.ensures.0 c.ok_or.ensures.value _ c.in_ok-ok_or.was).0 in
    let e = err_is _ _ _ _ _ c.as_four.ensures c.ok_or-2.ensures.value _ c.in_err-at.was in
    let p = err_from_is_err_and c.from_residual-in_err-at.result c.from_residual-in_err-at.ensures.1 in
    rw (p.1, p.2, e.1) (position-not-four (dimensions a.dims a.extents.now) a.at.now (rw (same (goal.at.returns-in_err-at c).In_ok-d) at s) e.0)
