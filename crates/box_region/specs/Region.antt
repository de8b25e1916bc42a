-- A box in extents, and the same cells in others. Assumes nothing.
use Rattle.std.specs.Prelude.{◌≤◌, ◌≡◌, true, length}
use Rattle.format.specs.Picture.{product, most_dimensions}
use Rattle.format.specs.Box.{box_from}
use Rattle.box_region.specs.declared.region.Region.{Region}
use Rattle.box_region.specs.Bounds.{bounded}

-- the box lies in its extents, and these have no more cells than a picture
pub record Placed (r : Region) : Type 0 where
  pub bounds : bounded r.extents r.low r.high ≡ true
  pub few : product r.extents ≤ 16777216

-- four dimensions
abbrev pub Four : Region → Type 0
Four r = (length r.extents ≡ most_dimensions) × (length r.low ≡ most_dimensions) × (length r.high ≡ most_dimensions)

-- the same positions in the same order
pub record SameCells (r s : Region) : Type 0 where
  pub four : Four s
  pub positions : box_from 0 s.extents s.low s.high ≡ box_from 0 r.extents r.low r.high
  pub bounds : bounded s.extents s.low s.high ≡ true
  pub product : product s.extents ≡ product r.extents
