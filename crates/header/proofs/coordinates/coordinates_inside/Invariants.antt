-- The loop's invariant: the coordinates found so far lie inside, and with what is left they give the position. Assumes nothing.
use mathlib.Core.Path.{◌≡◌}
use mathlib.Core.Bool.{true}
use Prim.Native.Nat.{◌*◌, ◌≤◌}
use lib.ListN.{length, drop}
use Rattle.format.specs.Picture.{product, row_order, inside_extents, most_dimensions}
use Rattle.header.proofs.coordinates.coordinates_inside.Given as goal

-- The loop's invariant: the coordinates found so far lie inside, and with what is left they give the position. Assumes nothing.
abbrev pub invariant-loop-i : goal.invariant-loop-i
invariant-loop-i l =
    (l.i ≤ most_dimensions)
    × (length l.at ≡ most_dimensions)
    × (row_order l.rest (drop l.i l.extents) (drop l.i l.at) ≡ l.initial.rest)
    × (inside_extents (drop l.i l.extents) (drop l.i l.at) ≡ true)
    × (l.rest * product (drop l.i l.extents) ≤ l.initial.rest)

abbrev pub decreases-loop-i : goal.decreases-loop-i
decreases-loop-i l = l.i
