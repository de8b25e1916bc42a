-- What the coordinate calls answer, case by case. Assumes nothing.
use Prim.Native.Nat.{ℕ}
use mathlib.Core.Path.{◌≡◌, refl}
use mathlib.Core.Bool.{true, false}
use mathlib.Core.List.{List}
use lib.ListN.{length}
use lib.Dec.{eqb}
use Rattle.format.specs.declared.Dimensions.{Dimensions}
use Rattle.format.specs.Signals.{BEYOND}
use Rattle.format.specs.Answers.{refused}
use Rattle.format.specs.Picture.{dimensions_allowed, most_dimensions}
use Rattle.format.specs.Coordinates.{PositionOf, position_number}
use Rattle.header.proofs.CoordinateAnswers.{number_extent}
use Rattle.c_values.specs.Extents.{CoordinatesOut}
use Rattle.c_values.proofs.Four.{not-four, not-inside}

-- ---- coordinates to position

pub position-not-four : (d : Dimensions) (cs : List ℕ) → dimensions_allowed d ≡ true → eqb (length cs) most_dimensions ≡ false → PositionOf d cs (refused BEYOND)
unfolding position_number
position-not-four d cs some h = record { said = rw (some, not-inside d cs h) }

-- ---- position to coordinates

module _ (d : Dimensions) (p : ℕ) (before : List ℕ) where
  pub out_extent : (length d.extents ≡ most_dimensions → ⊥) → CoordinatesOut d p before 4 before
  out_extent h = record { number = rw (← number_extent d p (not-four d h)); left = refl }
