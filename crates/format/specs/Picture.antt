-- The picture (document 01, "The picture"): dimensions, and the position of coordinates. Assumes nothing.
use Rattle.std.specs.Prelude.{ℕ, ◌+◌, ◌*◌, ◌/◌, ◌%◌, Bool, true, List, [], ◌∷◌, length, take, drop, leb, ltb, eqb}
use Rattle.format.specs.declared.Dimensions.{Dimensions}
use Rattle.format.specs.Tools.{both, within, every, first, others}

-- the most dimensions; coordinates and extents travel as so many numbers
abbrev pub most_dimensions : ℕ
most_dimensions = 4

-- the most cells that a picture has
abbrev pub most_cells : ℕ
most_cells = 16777216

unfoldable pub product : List ℕ → ℕ
product [] = 1
product (e ∷ es) = e * product es

-- "cells": the product of the extents
unfoldable pub cells : Dimensions → ℕ
cells d = product d.extents

-- 1 to 4 dimensions, each extent at least 1, those past the count 1, at most `mostCells` cells
unfoldable pub dimensions_allowed : Dimensions → Bool
dimensions_allowed d =
    both (within 1 most_dimensions d.count)
    (both (eqb (length d.extents) most_dimensions)
    (both (every (leb 1) (take d.count d.extents))
    (both (every (eqb 1) (drop d.count d.extents))
    (leb (cells d) most_cells))))

-- the position of coordinates in row order, the last dimension running fastest; p is that of the coordinates before
unfoldable pub row_order : ℕ → List ℕ → List ℕ → ℕ
row_order p [] cs = p
row_order p (e ∷ es) cs = row_order (p * e + first cs) es (others cs)

unfoldable pub position_at : Dimensions → List ℕ → ℕ
position_at d cs = row_order 0 d.extents cs

-- the coordinates of a position (of one below cells, `% e` changes nothing)
unfoldable pub coordinates_from : List ℕ → ℕ → List ℕ
coordinates_from [] p = []
coordinates_from (e ∷ es) p = p / product es % e ∷ coordinates_from es (p % product es)

unfoldable pub coordinates_at : Dimensions → ℕ → List ℕ
coordinates_at d p = coordinates_from d.extents p

-- each coordinate is inside its extent; past the dimension count the extent is 1, so the coordinate is 0
unfoldable pub inside_extents : List ℕ → List ℕ → Bool
inside_extents [] cs = true
inside_extents (e ∷ es) cs = both (ltb (first cs) e) (inside_extents es (others cs))

unfoldable pub inside : Dimensions → List ℕ → Bool
inside d cs = both (eqb (length cs) most_dimensions) (inside_extents d.extents cs)
