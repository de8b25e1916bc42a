-- The width that a search takes. Assumes nothing.
use Rattle.std.specs.Prelude.{◌≡◌, ℕ, ◌≤◌}
use Rattle.format.specs.declared.View.{View}

-- the width of a view, where it is 1 or 2
pub record OfWidth (v : View) (w : ℕ) : Type 0 where
  pub width : 1 ≤ v.width → v.width ≤ 2 → v.width ≡ w
