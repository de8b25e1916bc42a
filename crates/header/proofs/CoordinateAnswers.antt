-- The answers of the coordinate calls, case by case. Assumes nothing.
use Prim.Native.Nat.{ℕ, ◌≤◌, ◌<◌}
use mathlib.Core.Path.{◌≡◌, refl, sym}
use mathlib.Core.Bool.{true, false, not}
use mathlib.Core.List.{List, []}
use native.Mathlib.Omega.{arith}
use lib.ListN.{length}
use lib.Dec.{ltb}
use borrow.Author.Tests.{lt-ltb, le-ltb, ltb-true}
use Rattle.format.specs.declared.Dimensions.{Dimensions}
use Rattle.format.specs.Answers.{refused, given}
use Rattle.format.specs.Picture.{product, cells, dimensions_allowed, row_order, position_at, inside_extents, inside, coordinates_at, most_dimensions}
use Rattle.format.specs.Coordinates.{PositionOf, CoordinatesOf, position_number, coordinates_number}
use Rattle.laws.proofs.Tools.{refuse-zero, not-false}
use Rattle.header.proofs.CellCount.{cells-least}

-- the number of cells is the product of the extents, and at least 1
pub product-some : (d : Dimensions) → dimensions_allowed d ≡ true → 1 ≤ product d.extents
unfolding cells
product-some d h = cells-least d h

module _ (d : Dimensions) (cs : List ℕ) where
  pub position_extent : dimensions_allowed d ≡ false → PositionOf d cs (refused 4)
  unfolding position_number
  position_extent h = record { said = rw h }

  module _ (some : dimensions_allowed d ≡ true) (four : length cs ≡ most_dimensions) where
    pub position-beyond : inside_extents d.extents cs ≡ false → PositionOf d cs (refused 8)
    unfolding position_number inside
    position-beyond t = record { said = rw (some, four, t) }

    pub position-given : (p : ℕ) → inside_extents d.extents cs ≡ true → row_order 0 d.extents cs ≡ p → PositionOf d cs (given p)
    unfolding position_number inside position_at
    position-given p t e = record { said = rw (some, four, t, e) }

module _ (d : Dimensions) (p : ℕ) where
  pub number_extent : dimensions_allowed d ≡ false → 4 ≡ coordinates_number d p
  unfolding coordinates_number
  number_extent h = rw h

  module _ (some : dimensions_allowed d ≡ true) where
    number-beyond : cells d ≤ p → 8 ≡ coordinates_number d p
    unfolding coordinates_number
    number-beyond h = rw (some, le-ltb p (cells d) h)

    pub number-none : p < cells d → coordinates_number d p ≡ 0
    unfolding coordinates_number
    number-none h = rw (some, lt-ltb p (cells d) h)

  -- where the number is 0, the position is below the count, which is the product of the extents
  pub inside-product : coordinates_number d p ≡ 0 → p < product d.extents
  unfolding coordinates_number cells
  inside-product h =
      let t = refuse-zero 3 (not (dimensions_allowed d)) _ h in
      ltb-true p (cells d) (not-false (ltb p (cells d)) (refuse-zero 7 (not (ltb p (cells d))) 0 t.1).0)

  -- the cases of the answer
  pub coordinates_extent : dimensions_allowed d ≡ false → CoordinatesOf d p 4 []
  coordinates_extent h = record { number = number_extent h; coordinates = refl }

  pub coordinates-beyond : dimensions_allowed d ≡ true → cells d ≤ p → CoordinatesOf d p 8 []
  coordinates-beyond some h = record { number = number-beyond some h; coordinates = refl }

  pub coordinates-given : (cs : List ℕ) → coordinates_number d p ≡ 0 → cs ≡ coordinates_at d p → CoordinatesOf d p 0 cs
  coordinates-given cs z e = record { number = sym z; coordinates = e }
