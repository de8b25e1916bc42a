use mathlib.Core.Path.{◌≡◌, ◌∙◌}
use mathlib.Core.Bool.{true}
use Rattle.std.proofs.lemmas.Result.{err_from_is_err_and, IfOk-at_ok}
use Rattle.format.specs.Accepted.{check_number}
use Rattle.format.specs.Box.{box_allowed}
use Rattle.laws.proofs.Acceptance as laws
use Rattle.laws.proofs.Tools.{ok_is, err_is}
use Rattle.laws.proofs.Refusals.{accepted_at, handed_on, handed_least}
use Rattle.parts.specs.Holds.{ViewOf}
use Rattle.box_region.specs.Bounds.{box_count}
use Rattle.reading.proofs.BoxAnswers.{box_refused, dimensions-right, box_beyond, box_small, box_fills}
use Rattle.reading.proofs.boxes.box_words.Goals.{In_ok-v, In_ok-count}
use Rattle.reading.proofs.boxes.box_words.Goals as goal

pub returns-in_err-v : goal.returns-in_err-v
returns-in_err-v c =
    let a = c.args in
    let h = handed_on _ _ c.in_err-v.was _ c.from_residual.ensures.1 in
    let l = handed_least _ _ c.in_err-v.was _ c.from_residual.ensures.1 in
    box_refused a.file.now a.low a.high a.dst.now _ (h ∙ c.check.ensures.number) l

-- none of 1 to 6 applies
accepted : (c : In_ok-v) → check_number c.args.file.now ≡ 0
accepted c = accepted_at _ _ c.check.ensures.number _ c.in_ok-v.was

-- the box is allowed, and has so many cells
some : (c : In_ok-count)
    → (box_allowed c.read_dimensions-d.result c.args.low c.args.high ≡ true) × (c.in_ok-count.count ≡ box_count c.read_dimensions-d.result.extents c.args.low c.args.high)
some c = ok_is _ _ _ _ _ c.box_count.ensures.0 c.ok_or.ensures.value _ c.in_ok-count.was

pub read_dimensions-d-requires : goal.read_dimensions-d-requires
read_dimensions-d-requires c = let b = c.args.file.now in (laws.header-right b (laws.accepted b (accepted c)).header).long

pub box_count-requires : goal.box_count-requires
box_count-requires c = dimensions-right c.args.file.now c.read_dimensions-d.result (accepted (goal.at.box_count-requires c).In_ok-v) c.read_dimensions-d.ensures

pub returns-in_err-count : goal.returns-in_err-count
returns-in_err-count c =
    let a = c.args in
    let d = c.read_dimensions-d in
    let e = err_is _ _ _ _ _ c.box_count.ensures.0 c.ok_or.ensures.value _ c.in_err-count.was in
    let p = err_from_is_err_and c.from_residual-in_err-count.result c.from_residual-in_err-count.ensures.1 in
    rw (p.1, p.2, e.1) (box_beyond a.file.now a.low a.high a.dst.now d.result (accepted (goal.at.returns-in_err-count c).In_ok-v) d.ensures e.0)

pub returns-then-dst-count : goal.returns-then-dst-count
returns-then-dst-count c =
    let a = c.args in
    let d = c.read_dimensions-d in
    let g = goal.at.returns-then-dst-count c in
    let s = some g.In_ok-count in
    box_small a.file.now a.low a.high a.dst.now d.result (accepted g.In_ok-v) d.ensures s.0 _ s.1 c.if-dst-count.true

pub put_box-requires : goal.put_box-requires
put_box-requires c =
    let s = some (goal.at.put_box-requires c).In_ok-count in (
      IfOk-at_ok (ViewOf c.args.file.now) c.in_ok-v.was c.check.ensures.view,
      c.read_dimensions-d.ensures,
      s.0,
      rw (← s.1) c.if-dst-count.false,
    )

pub returns : goal.returns
returns c =
    let a = c.args in
    let d = c.read_dimensions-d in
    let g = goal.at.returns c in
    let s = some g.In_ok-count in
    box_fills a.file.now a.low a.high a.dst.now d.result (accepted g.In_ok-v) d.ensures s.0 _ s.1 _ c.if-dst-count.false c.put_box.ensures
