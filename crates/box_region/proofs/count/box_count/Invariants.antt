-- The loop's invariant: the count so far, continued over the dimensions that are left, gives the whole. Assumes nothing.
use mathlib.Core.Path.{◌≡◌}
use Prim.Native.Nat.{◌*◌, ◌≤◌}
use lib.ListN.{drop}
use Rattle.format.specs.Picture.{product, most_dimensions}
use Rattle.box_region.proofs.Counted.{counted}
use Rattle.box_region.proofs.count.box_count.Given as goal

-- The loop's invariant: the count so far, continued over the dimensions that are left, gives the whole. Assumes nothing.
abbrev pub invariant-loop-i : goal.invariant-loop-i
invariant-loop-i l =
    (l.i ≤ most_dimensions) × (l.count * product (drop l.i l.extents) ≤ product l.extents)
    × (counted l.count (drop l.i l.extents) (drop l.i l.low) (drop l.i l.high) ≡ counted 1 l.extents l.low l.high)
    × (1 ≤ l.count)
