-- Coordinates to position and back (document 01, "The calls"): 4, then 8. Assumes nothing.
use Rattle.std.specs.Prelude.{ℕ, ◌≡◌, not, List, [], ltb, eqb}
use Rattle.format.specs.declared.Dimensions.{Dimensions}
use Rattle.format.specs.Tools.{pick}
use Rattle.format.specs.Signals.{EXTENT, BEYOND, refuse}
use Rattle.format.specs.Answers.{Answer, given, answered}
use Rattle.format.specs.Picture.{cells, dimensions_allowed, position_at, coordinates_at, inside}

unfoldable pub position_number : Dimensions → List ℕ → ℕ
position_number d cs = refuse EXTENT (not (dimensions_allowed d)) (refuse BEYOND (not (inside d cs)) 0)

unfoldable pub coordinates_number : Dimensions → ℕ → ℕ
coordinates_number d p = refuse EXTENT (not (dimensions_allowed d)) (refuse BEYOND (not (ltb p (cells d))) 0)

-- ---- the contracts

pub record PositionOf (d : Dimensions) (cs : List ℕ) (answer : Answer) : Type 0 where
  pub said : answer ≡ answered (position_number d cs) (given (position_at d cs))

pub record CoordinatesOf (d : Dimensions) (p answer : ℕ) (cs : List ℕ) : Type 0 where
  pub number : answer ≡ coordinates_number d p
  pub coordinates : cs ≡ pick (eqb answer 0) (coordinates_at d p) []
