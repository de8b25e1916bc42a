use mathlib.Core.Path.{◌≡◌, refl, ap, ◌∙◌}
use Prim.Native.Nat.{ℕ}
use mathlib.Core.Bool.{Bool, true, false}
use Rattle.std.specs.Prelude.{Option, Some, None}
use Rattle.std.specs.Option.{unwrap_or}
use Rattle.format.specs.Tools.{pick}
use Rattle.format.specs.Picture.{cells, dimensions_allowed}
use Rattle.header.proofs.Fields.{view_fields}
use Rattle.header.proofs.view.read_view.Goals as goal

-- no cells where there is no number of them
cells_or : (t : Bool) (n : ℕ) → unwrap_or (pick t (Some n) None) 0 ≡ pick t n 0
cells_or true n = refl
cells_or false n = refl

pub returns : goal.returns
returns c =
    view_fields _
    c.read_setting-setting.ensures
    c.read_dimensions.ensures
    (c.unwrap_or-cells.ensures ∙ ap (λ (o : Option ℕ). unwrap_or o 0) c.cell_count.ensures.0 ∙ cells_or (dimensions_allowed c.read_dimensions.result) (cells c.read_dimensions.result))
    c.get_u32-empty.ensures.0
    c.read_counts-counts.ensures
