-- The loop's invariant: the coordinates and extents that are left, from the position so far, give the whole. Assumes nothing.
use mathlib.Core.Path.{◌≡◌}
use Prim.Native.Nat.{suc, ◌-◌, ◌*◌, ◌≤◌}
use lib.ListN.{drop}
use Rattle.format.specs.Picture.{product, row_order, inside_extents, most_dimensions}
use Rattle.header.proofs.coordinates.position_at.Given as goal

-- The loop's invariant: the coordinates and extents that are left, from the position so far, give the whole. Assumes nothing.
abbrev pub invariant-loop-i : goal.invariant-loop-i
invariant-loop-i l =
    (l.i ≤ most_dimensions)
    × (row_order l.p (drop l.i l.extents) (drop l.i l.at) ≡ row_order 0 l.extents l.at)
    × (inside_extents (drop l.i l.extents) (drop l.i l.at) ≡ inside_extents l.extents l.at)
    × (suc l.p * product (drop l.i l.extents) ≤ product l.extents)

abbrev pub decreases-loop-i : goal.decreases-loop-i
decreases-loop-i l = most_dimensions - l.i
