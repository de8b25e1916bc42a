-- The loop's invariant: the product so far, continued over the extents that are left, gives the whole. Assumes nothing.
use mathlib.Core.Path.{◌≡◌, sym, ap, ◌∙◌}
use Prim.Native.Nat.{ℕ, ◌+◌, ◌-◌, ◌*◌, ◌≤◌}
use mir.Val.{Fits}
use mir.Syntax.{w32}
use native.Mathlib.Nat.{mul-le-mul}
use native.Mathlib.Omega.{arith}
use lib.ListN.{length, drop, get_or}
use borrow.Author.Rules.{rules}
use borrow.Author.Tests.{le-leb, lt-leb}
use Rattle.format.specs.Tools.{pick}
use Rattle.format.specs.Picture.{cells, dimensions_allowed, most_dimensions}
use Rattle.header.specs.CellCount.{count_from}
use Rattle.std.specs.Prelude.{Some, None}
use Rattle.format.specs.declared.Dimensions.{Dimensions}
use Rattle.laws.proofs.Tools.{none_of, some_of}
use Rattle.header.proofs.CellCount.{cells-least, count-cells, count_outside, past-allowed, past-refused}
use Rattle.header.proofs.CellCount.{count-step, count-refused, count_dimension, count_past, count-end}
use Rattle.header.proofs.extents.cell_count.Goals.{At-loop-i, In-loop-i, Start}
use Rattle.header.proofs.extents.cell_count.Goals as goal
use Rattle.header.proofs.extents.cell_count.Goals.{else-dimensions-i, then-dimensions-i+else-e-ne1}

-- an array of four
four : (c : Start) → length c.args.d.extents ≡ most_dimensions
four c = search rules

-- no cells where the count is 0
none : (d : Dimensions) → 0 ≡ pick (dimensions_allowed d) (cells d) 0
    → (None ≡ pick (dimensions_allowed d) (Some (cells d)) None) × Unit {0}
none d e = (none_of _ _ (cells-least d) e, tt)

-- where it stops, what it counts is the number of cells, or 0
whole : (c : In-loop-i) (x : ℕ)
    → count_from (c.args.d.count - c.loop-i.i) c.loop-i.cells
    (drop c.loop-i.i c.args.d.extents)
    ≡ x
    → x ≡ pick (dimensions_allowed c.args.d) (cells c.args.d) 0
whole c x h =
    let f : length c.args.d.extents ≡ most_dimensions = search rules in
    sym h ∙ c.loop-i.invariant.2 ∙ count-cells c.args.d (omega arith) (omega arith) f

pub returns-in_default : goal.returns-in_default
returns-in_default c = none c.args.d (count_outside c.args.d (rw (lt-leb 1 c.args.d.count (omega arith))))

pub returns-in_default-2 : goal.returns-in_default-2
returns-in_default-2 c =
    let n = c.args.d.count in
    none c.args.d (count_outside c.args.d (rw (le-leb 1 n (omega arith), lt-leb n 4 (omega arith))))

pub loop-i-init : goal.loop-i-init
loop-i-init c =
    let d = c.args.d in
    let z : d.count - 0 ≡ d.count = omega arith in
    (omega arith, omega arith, ap (λ (n : ℕ). count_from n 1 d.extents) z)

pub returns-then-e-ne1 : goal.returns-then-e-ne1
returns-then-e-ne1 c =
    let f = four (goal.at.returns-then-e-ne1 c).Start in
    let past : c.args.d.count - c.loop-i.i ≡ 0 = omega arith in
    none c.args.d (whole (goal.at.returns-then-e-ne1 c).In-loop-i 0 (count-refused _ _ _ _ (omega arith) (past-refused _ _ past c.if-e-ne1.true)))

pub overflow_mul-cells : goal.overflow_mul-cells
overflow_mul-cells c =
    let l = c.loop-i in
    let e = get_or c.args.d.extents l.i 0 in
    let fits : Fits w32 e = search rules in
    let small : e ≤ 4294967295 = omega arith in
    let most : l.cells * e ≤ 16777216 * 4294967295 = mul-le-mul l.invariant.1 small in
    record { fits = omega arith }

pub returns-then-cells-gt16777216 : goal.returns-then-cells-gt16777216
returns-then-cells-gt16777216 c =
    let f = four (goal.at.returns-then-cells-gt16777216 c).Start in
    none c.args.d (whole (goal.at.returns-then-cells-gt16777216 c).In-loop-i 0 (count_past _ _ _ _ (omega arith) (omega arith)))

pub loop-i-preserved : goal.loop-i-preserved
loop-i-preserved c =
    let l = c.loop-i in
    let e = c.args.d.extents in
    let f = four (goal.at.loop-i-preserved c).Start in
    let m = c.args.d.count in
    let small : l.cells * get_or e l.i 0 ≤ 16777216 = omega arith in
    let step : count_from (m - l.i) l.cells (drop l.i e) ≡ count_from (m - (l.i + 1)) (l.cells * get_or e l.i 0) (drop (l.i + 1) e) =
    elim c.if-dimensions-i.branch [ then-dimensions-i+else-e-ne1 w ↦ count-step m l.cells l.i e (omega arith) (past-allowed (m - l.i) (get_or e l.i 0) (omega (arith, w.if-dimensions-i.true)) w.if-e-ne1.false) small | else-dimensions-i w ↦ count_dimension m l.cells l.i e (omega arith) (omega (arith, w.if-dimensions-i.false)) small ] in
    (omega arith, small, sym step ∙ l.invariant.2)

-- at the end the product is the number of cells
all : (c : At-loop-i) → most_dimensions ≤ c.loop-i.i → c.loop-i.cells ≡ pick (dimensions_allowed c.args.d) (cells c.args.d) 0
all c h =
    let l = c.loop-i in
    let f : length c.args.d.extents ≡ most_dimensions = search rules in
    sym (count-end c.args.d.count l.cells l.i c.args.d.extents (omega arith)) ∙ l.invariant.2 ∙ count-cells c.args.d (omega arith) (omega arith) f

pub returns-then-cells-eq0 : goal.returns-then-cells-eq0
returns-then-cells-eq0 c =
    let e = all (goal.at.returns-then-cells-eq0 c).At-loop-i (omega arith) in
    none c.args.d (sym c.if-cells-eq0.true ∙ e)

pub returns-else-cells-eq0 : goal.returns-else-cells-eq0
returns-else-cells-eq0 c =
    let e = all (goal.at.returns-else-cells-eq0 c).At-loop-i (omega arith) in
    (some_of _ _ _ (omega (arith, c.if-cells-eq0.false)) e, omega arith)
