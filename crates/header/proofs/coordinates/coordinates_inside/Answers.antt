-- The loop's invariant: the coordinates found so far lie inside, and with what is left they give the position. Assumes nothing.
use mathlib.Core.Path.{◌≡◌, refl, sym, ◌∙◌}
use Prim.Native.Nat.{◌+◌, ◌-◌, ◌≤◌, ◌<◌}
use native.Mathlib.Omega.{arith}
use lib.ListN.{length, get_or, length-set}
use borrow.Author.Rules.{rules}
use Rattle.format.specs.Picture.{product, coordinates_at, most_dimensions}
use Rattle.header.proofs.RowOrder.{extent_least, row-end, inside-end, room-end, back-row, back_inside, back-room, back_end}
use Rattle.header.proofs.CoordinateAnswers.{inside-product}
use Rattle.header.proofs.coordinates.coordinates_inside.Goals.{In-loop-i, Start}
use Rattle.header.proofs.coordinates.coordinates_inside.Goals as goal

four : (c : Start) → length c.args.d.extents ≡ most_dimensions
four c = search rules

few : (c : Start) → c.args.p.0 < product c.args.d.extents
few c = inside-product c.args.d c.args.p.0 c.requires

-- the divisor is an extent
pos : (c : In-loop-i) → 1 ≤ get_or c.args.d.extents (c.loop-i.i - 1) 0
pos c =
    let f : length c.args.d.extents ≡ most_dimensions = search rules in
    let g : c.args.p.0 < product c.args.d.extents = inside-product c.args.d c.args.p.0 c.requires in
    extent_least (c.loop-i.i - 1) c.args.d.extents (omega arith) (omega arith)

pub loop-i-init : goal.loop-i-init
loop-i-init c =
    let p = c.args.p.0 in
    let h = four (goal.at.loop-i-init c).Start in
    let l : length c.args.d.extents ≤ most_dimensions = omega arith in
    (omega arith, refl, row-end 4 p c.args.d.extents _ l, inside-end 4 p c.args.d.extents _ l, room-end 4 p c.args.d.extents l)

pub loop-i-preserved : goal.loop-i-preserved
loop-i-preserved c =
    let l = c.loop-i in
    let es = c.args.d.extents in
    let k = l.i - 1 in
    let up : l.i ≡ k + 1 = omega arith in
    let f = four (goal.at.loop-i-preserved c).Start in
    let h : k < length es = omega arith in
    let g : k < length l.at = omega arith in (
      omega arith,
      rw length-set l.invariant.1,
      back-row k l.rest es l.at h g ∙ rw up at l.invariant.2,
      back_inside k l.rest es l.at h g (pos c) ∙ rw up at l.invariant.3,
      back-room k l.rest es l.at h g _ (rw up at l.invariant.4),
    )

pub returns : goal.returns
unfolding coordinates_at
returns c =
    let l = c.loop-i in
    let none : l.i ≡ 0 = omega arith in
    back_end l.rest c.args.p.0 c.args.d.extents l.at (l.invariant.1 ∙ sym (four (goal.at.returns c).Start)) (rw none at l.invariant.2) (rw none at l.invariant.3) (rw none at l.invariant.4) (few (goal.at.returns c).Start)

pub nonzero_rem-at : goal.nonzero_rem-at
nonzero_rem-at c = pos (goal.at.nonzero_rem-at c).In-loop-i

pub nonzero_div-rest : goal.nonzero_div-rest
nonzero_div-rest c = pos (goal.at.nonzero_div-rest c).In-loop-i
