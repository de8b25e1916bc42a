use mathlib.Core.Path.{◌≡◌, sym, ◌∙◌}
use mathlib.Core.Bool.{true}
use Prim.Native.Nat.{◌≤◌, ◌<◌}
use Rattle.std.proofs.lemmas.Result.{err_from_is_err_and}
use Rattle.laws.proofs.Tools.{ok_is, err_is}
use Rattle.format.specs.Picture.{cells, dimensions_allowed}
use Rattle.header.proofs.CoordinateAnswers.{number-none, coordinates_extent, coordinates-beyond, coordinates-given}
use Rattle.header.proofs.coordinates.coordinates_at.Goals.{In_ok-cells, Else-cells-p}
use Rattle.header.proofs.coordinates.coordinates_at.Goals as goal

some : (c : In_ok-cells) → (dimensions_allowed c.args.d ≡ true) × (c.in_ok-cells.cells ≡ cells c.args.d)
some c = ok_is _ _ _ _ _ c.cell_count.ensures.0 c.ok_or.ensures.value _ c.in_ok-cells.was

pub returns-in_err-cells : goal.returns-in_err-cells
returns-in_err-cells c =
    let e = err_is _ _ _ _ _ c.cell_count.ensures.0 c.ok_or.ensures.value _ c.in_err-cells.was in
    let p = err_from_is_err_and c.from_residual.result c.from_residual.ensures.1 in
    rw (p.1, p.2, e.1) (coordinates_extent c.args.d c.args.p.0 e.0)

pub returns-then-cells-p : goal.returns-then-cells-p
returns-then-cells-p c =
    let s = some (goal.at.returns-then-cells-p c).In_ok-cells in
    coordinates-beyond c.args.d c.args.p.0 s.0 (rw s.1 at c.if-cells-p.true)

inside : (c : Else-cells-p) → c.args.p.0 < cells c.args.d
inside c =
    let s = ok_is _ _ _ _ _ c.cell_count.ensures.0 c.ok_or.ensures.value _ c.in_ok-cells.was in
    rw s.1 at c.if-cells-p.false

pub coordinates_inside-requires : goal.coordinates_inside-requires
coordinates_inside-requires c =
    let s = some (goal.at.coordinates_inside-requires c).In_ok-cells in
    number-none c.args.d c.args.p.0 s.0 (inside c)

pub returns : goal.returns
returns c =
    let s = some (goal.at.returns c).In_ok-cells in
    coordinates-given c.args.d c.args.p.0 _ (number-none c.args.d c.args.p.0 s.0 (inside (goal.at.returns c).Else-cells-p)) c.coordinates_inside.ensures
