-- The loop's invariant: the count so far, continued over the dimensions that are left, gives the whole. Assumes nothing.
use mathlib.Core.Path.{◌≡◌, refl, sym, ◌∙◌}
use Prim.Native.Nat.{ℕ, ◌+◌, ◌-◌, ◌*◌, ◌≤◌}
use mir.Val.{Fits}
use mir.Syntax.{w32}
use native.Mathlib.Nat.{one-mul, one-le-mul, le_refl, le_trans}
use native.Mathlib.Omega.{arith}
use lib.ListN.{length, drop, get_or}
use Rattle.format.specs.Tools.{pick}
use Rattle.format.specs.Picture.{product, cells, most_dimensions}
use Rattle.format.specs.Box.{box_allowed}
use Rattle.laws.proofs.Limits.{small-dims}
use Rattle.header.proofs.CellCount.{cells-least}
use Rattle.std.specs.Prelude.{List, Some, None}
use Rattle.format.specs.declared.Dimensions.{Dimensions}
use Rattle.laws.proofs.Tools.{none_of, some_of}
use Rattle.box_region.specs.Bounds.{box_count}
use Rattle.box_region.proofs.Counted.{Four, counted, count_turn, count_past, count-above, count_room, count-end, count_small, count-all, box-least}
use borrow.Author.Rules.{rules}
use Rattle.box_region.proofs.count.box_count.Goals.{At-loop-i, Else-h-l, Start}
use Rattle.box_region.proofs.count.box_count.Goals as goal

four : (c : Start) → Four c.args.d.extents c.args.low c.args.high
four c = (search rules, search rules, search rules)

most : (c : Start) → (1 ≤ product c.args.d.extents) × (product c.args.d.extents ≤ 16777216)
unfolding cells
most c = (cells-least c.args.d c.requires, (small-dims c.args.d c.requires).most)

-- none where the count is 0
none : (d : Dimensions) (low high : List ℕ) → length low ≡ most_dimensions → length high ≡ most_dimensions → 0 ≡ pick (box_allowed d low high) (box_count d.extents low high) 0
    → (None ≡ pick (box_allowed d low high) (Some (box_count d.extents low high)) None) × Unit {0}
none d low high l h e = (none_of _ _ (box-least d low high l h) e, tt)

-- where it stops, what it counts is the number of cells, or 0
whole : (c : At-loop-i) (x : ℕ)
    → counted c.loop-i.count (drop c.loop-i.i c.args.d.extents) (drop c.loop-i.i c.args.low) (drop c.loop-i.i c.args.high) ≡ x
    → x ≡ pick (box_allowed c.args.d c.args.low c.args.high) (box_count c.args.d.extents c.args.low c.args.high) 0
whole c x h =
    sym h ∙ c.loop-i.invariant.2 ∙ count-all c.args.d c.args.low c.args.high (search rules) (search rules)

-- the next count stays in the picture
room : (c : Else-h-l)
    → c.loop-i.count * (get_or c.args.high c.loop-i.i 0 - get_or c.args.low c.loop-i.i 0 + 1)
    * product (drop (c.loop-i.i + 1) c.args.d.extents)
    ≤ product c.args.d.extents
room c =
    let l = c.loop-i in
    count_room l.count l.i c.args.d.extents c.args.low c.args.high c.loop-i-test.true (search rules, search rules, search rules) _ l.invariant.1 c.if-e-h.false

next : (c : Else-h-l)
    → c.loop-i.count * (get_or c.args.high c.loop-i.i 0 - get_or c.args.low c.loop-i.i 0 + 1)
    ≤ 16777216
unfolding cells
next c =
    let m : (1 ≤ product c.args.d.extents) × (product c.args.d.extents ≤ 16777216) = (cells-least c.args.d c.requires, (small-dims c.args.d c.requires).most) in
    le_trans (count_small _ _ (c.loop-i.i + 1) c.args.d.extents m.0 (room c)) m.1

pub loop-i-init : goal.loop-i-init
loop-i-init c = (omega arith, rw one-mul (le_refl _), refl, omega arith)

pub returns-then-e-h : goal.returns-then-e-h
returns-then-e-h c =
    let l = c.loop-i in
    none c.args.d c.args.low c.args.high (search rules) (search rules) (whole (goal.at.returns-then-e-h c).At-loop-i 0 (count_past l.count l.i _ _ _ c.loop-i-test.true (four (goal.at.returns-then-e-h c).Start) c.if-e-h.true))

pub returns-then-h-l : goal.returns-then-h-l
returns-then-h-l c =
    let l = c.loop-i in
    none c.args.d c.args.low c.args.high (search rules) (search rules) (whole (goal.at.returns-then-h-l c).At-loop-i 0 (count-above l.count l.i _ _ _ c.loop-i-test.true (four (goal.at.returns-then-h-l c).Start) c.if-h-l.true))

pub overflow_add-count : goal.overflow_add-count
overflow_add-count c =
    let k = c.if-e-h.false in
    let fits : Fits w32 (get_or c.args.d.extents c.loop-i.i 0) = search rules in
    record { fits = omega arith }

pub overflow_mul-count : goal.overflow_mul-count
overflow_mul-count c = let h = next c in record { fits = omega arith }

pub loop-i-preserved : goal.loop-i-preserved
loop-i-preserved c =
    let l = c.loop-i in
    let h = c.loop-i-test.true in
    (omega arith, room c, sym (count_turn l.count l.i _ _ _ h (four (goal.at.loop-i-preserved c).Start) c.if-h-l.false c.if-e-h.false) ∙ l.invariant.2, one-le-mul l.invariant.3 (omega arith))

pub returns : goal.returns
returns c =
    let l = c.loop-i in
    let m = most (goal.at.returns c).Start in
    let k = count_small _ l.count l.i c.args.d.extents m.0 l.invariant.1 in
    let e = whole (goal.at.returns c).At-loop-i l.count (count-end l.count l.i c.args.d.extents _ _ (rw (four (goal.at.returns c).Start).0 c.loop-i-test.false)) in
    (some_of _ _ _ l.invariant.3 e, le_trans k m.1)
