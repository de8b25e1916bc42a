-- The loop's invariant: the coordinates and extents that are left, from the position so far, give the whole. Assumes nothing.
use mathlib.Core.Path.{◌≡◌, refl, sym, ◌∙◌}
use Prim.Native.Nat.{suc, ◌+◌, ◌*◌, ◌≤◌, ◌<◌}
use native.Mathlib.Omega.{arith}
use lib.ListN.{length, drop, get_or}
use borrow.Author.Rules.{rules}
use Rattle.format.specs.Picture.{product, cells, dimensions_allowed, most_dimensions}
use Rattle.header.proofs.RowOrder.{row_turn, inside_turn, inside_stop, room_turn, room-below, row-end, inside-end}
use mathlib.Core.Bool.{true}
use Rattle.std.proofs.lemmas.Result.{err_from_is_err_and}
use Rattle.laws.proofs.Tools.{ok_is, err_is}
use Rattle.laws.proofs.Limits.{small-dims}
use Rattle.header.proofs.CoordinateAnswers.{product-some, position_extent, position-beyond, position-given}
use Rattle.header.proofs.coordinates.position_at.Goals.{At-loop-i, Else-e-a, Start}
use Rattle.header.proofs.coordinates.position_at.Goals as goal

four : (c : Start) → (length c.args.d.extents ≡ most_dimensions) × (length c.args.at ≡ most_dimensions)
four c = (search rules, search rules)

some : (c : At-loop-i) → dimensions_allowed c.args.d ≡ true
some c = (ok_is _ _ _ _ _ c.cell_count.ensures.0 c.ok_or.ensures.value _ c.in_ok-ok_or.was).0

-- the coordinate is inside
below : (c : Else-e-a)
    → get_or c.args.at c.loop-i.i 0
    < get_or c.args.d.extents c.loop-i.i 0
below c = omega arith

-- the next position is below the product
room : (c : Else-e-a)
    → suc (c.loop-i.p * get_or c.args.d.extents c.loop-i.i 0
    + get_or c.args.at c.loop-i.i 0)
    * product (drop (c.loop-i.i + 1) c.args.d.extents)
    ≤ product c.args.d.extents
room c =
    let l = c.loop-i in
    let f : (length c.args.d.extents ≡ most_dimensions) × (length c.args.at ≡ most_dimensions) = (search rules, search rules) in
    room_turn l.i l.p c.args.d.extents c.args.at (omega arith) _ l.invariant.3 (below c)

next : (c : Else-e-a)
    → c.loop-i.p * get_or c.args.d.extents c.loop-i.i 0
    + get_or c.args.at c.loop-i.i 0
    < 16777216
unfolding cells
next c =
    let s = (ok_is _ _ _ _ _ c.cell_count.ensures.0 c.ok_or.ensures.value _ c.in_ok-ok_or.was).0 in
    let b = room-below _ (c.loop-i.i + 1) _ c.args.d.extents (product-some c.args.d s) (room c) in
    let m : product c.args.d.extents ≤ 16777216 = (small-dims c.args.d s).most in
    omega arith

pub returns-in_err-ok_or : goal.returns-in_err-ok_or
returns-in_err-ok_or c =
    let e = err_is _ _ _ _ _ c.cell_count.ensures.0 c.ok_or.ensures.value _ c.in_err-ok_or.was in
    let p = err_from_is_err_and c.from_residual.result c.from_residual.ensures.1 in
    rw (p.1, p.2, e.1) (position_extent c.args.d c.args.at e.0)

pub loop-i-init : goal.loop-i-init
loop-i-init c = (omega arith, refl, refl, omega arith)

pub returns-then-e-a : goal.returns-then-e-a
returns-then-e-a c =
    let l = c.loop-i in
    let f = four (goal.at.returns-then-e-a c).Start in
    position-beyond c.args.d c.args.at (some (goal.at.returns-then-e-a c).At-loop-i) f.1
    (sym l.invariant.2 ∙ inside_stop l.i l.p c.args.d.extents c.args.at (omega arith) (omega arith))

pub overflow_mul-p : goal.overflow_mul-p
overflow_mul-p c = let n = next c in record { fits = omega arith }

pub overflow_add-p : goal.overflow_add-p
overflow_add-p c = let n = next c in record { fits = omega arith }

pub loop-i-preserved : goal.loop-i-preserved
loop-i-preserved c =
    let l = c.loop-i in
    let f = four (goal.at.loop-i-preserved c).Start in
    let h : l.i < length c.args.d.extents = omega arith in (
      omega arith,
      sym (row_turn l.i l.p c.args.d.extents c.args.at h) ∙ l.invariant.1,
      sym (inside_turn l.i l.p c.args.d.extents c.args.at h (below c)) ∙ l.invariant.2,
      room c,
    )

pub returns : goal.returns
returns c =
    let l = c.loop-i in
    let f = four (goal.at.returns c).Start in
    let h : length c.args.d.extents ≤ l.i = omega arith in
    position-given c.args.d c.args.at (some (goal.at.returns c).At-loop-i) f.1 l.p
    (sym l.invariant.2 ∙ inside-end l.i l.p c.args.d.extents (drop l.i c.args.at) h)
    (sym l.invariant.1 ∙ row-end l.i l.p c.args.d.extents (drop l.i c.args.at) h)
