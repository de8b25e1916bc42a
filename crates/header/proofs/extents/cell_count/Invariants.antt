-- The loop's invariant: the product so far, continued over the extents that are left, gives the whole. Assumes nothing.
use mathlib.Core.Path.{◌≡◌}
use Prim.Native.Nat.{◌-◌, ◌≤◌}
use lib.ListN.{drop}
use Rattle.format.specs.Picture.{most_dimensions}
use Rattle.header.specs.CellCount.{count_from}
use Rattle.header.proofs.extents.cell_count.Given as goal

-- The loop's invariant: the product so far, continued over the extents that are left, gives the whole. Assumes nothing.
abbrev pub invariant-loop-i : goal.invariant-loop-i
invariant-loop-i l =
    (l.i ≤ most_dimensions) × (l.cells ≤ 16777216) × (count_from (l.count - l.i) l.cells (drop l.i l.extents) ≡ count_from l.count 1 l.extents)

abbrev pub decreases-loop-i : goal.decreases-loop-i
decreases-loop-i l = most_dimensions - l.i
