use Rattle.std.proofs.lemmas.Result.{err_from_is_err_and}
use Rattle.laws.proofs.Refusals.{refused_at}
use Rattle.c_values.specs.Extents.{dimensions}
use Rattle.c_values.proofs.Four.{extents_other, extents_refused}
use Rattle.c_values.proofs.CoordinateCalls.{out_extent}
use Rattle.c_values.proofs.coordinates.position_coordinates.Goals as goal

pub returns-in_err-d : goal.returns-in_err-d
returns-in_err-d c =
    let a = c.args in
    let r = refused_at _ _ c.dimensions_of.ensures.0 _ c.in_err-d.was in
    let p = err_from_is_err_and c.from_residual.result c.from_residual.ensures.1 in
    rw (p.1, p.2, r.0, extents_refused a.extents.now r.1)
    (out_extent (dimensions a.dims a.extents.now) a.place a.dst.now (extents_other a.extents.now r.1))
