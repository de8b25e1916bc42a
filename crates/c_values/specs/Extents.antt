-- Settings and dimensions of plain numbers, and coordinates into a destination. Assumes nothing.
use Rattle.std.specs.Prelude.{ℕ, ◌≡◌, not, List, length, eqb, ltb}
use Rattle.format.specs.declared.Dimensions.{Dimensions}
use Rattle.format.specs.declared.Setting.{Setting}
use Rattle.format.specs.Signals.{EXTENT, SMALL, refuse, or_else}
use Rattle.format.specs.Answers.{leaves}
use Rattle.format.specs.Picture.{most_dimensions, coordinates_at}
use Rattle.format.specs.Coordinates.{coordinates_number}

abbrev pub setting : ℕ → ℕ → ℕ → Setting
setting k w l = record { kind = k; width = w; step = l }

-- of any number of extents
abbrev pub dimensions : ℕ → List ℕ → Dimensions
dimensions n es = record { count = n; extents = es }

-- 4 for extents that are not four numbers
unfoldable pub extents_number : List ℕ → ℕ
extents_number es = refuse EXTENT (not (eqb (length es) most_dimensions)) 0

-- coordinates into a destination that held `before`: 4, 8, then 10 where it is shorter than four
pub record CoordinatesOut (d : Dimensions) (p : ℕ) (before : List ℕ) (answer : ℕ) (after : List ℕ) : Type 0 where
  pub number : answer ≡ or_else (coordinates_number d p) (refuse SMALL (ltb (length before) most_dimensions) 0)
  pub left : after ≡ leaves answer (coordinates_at d p) before
