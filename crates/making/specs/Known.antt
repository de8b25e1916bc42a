-- The numbers of a call that come before the file is measured. Assumes nothing.
use Rattle.std.specs.Prelude.{ℕ, not, eqb}
use Rattle.format.specs.declared.Dimensions.{Dimensions}
use Rattle.format.specs.declared.Setting.{Setting}
use Rattle.format.specs.Signals.{EXTENT, PICTURE, refuse}
use Rattle.format.specs.Picture.{cells, dimensions_allowed}
use Rattle.format.specs.Calls.{setting_number}

-- make: 2, 3, 4 and 7, of the setting, the dimensions and the number of words
unfoldable pub picture_number : Setting → Dimensions → ℕ → ℕ
picture_number s d words = setting_number s (refuse EXTENT (not (dimensions_allowed d)) (refuse PICTURE (not (eqb words (cells d))) 0))
