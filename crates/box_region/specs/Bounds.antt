-- A box dimension by dimension: its bounds, and the number of its cells. Assumes nothing.
use Rattle.std.specs.Prelude.{ℕ, suc, ◌-◌, ◌*◌, Bool, true, List, [], ◌∷◌, leb, ltb}
use Rattle.format.specs.Tools.{both, first, others}

-- low ≤ high < extent
unfoldable pub bounded : List ℕ → List ℕ → List ℕ → Bool
bounded [] low high = true
bounded (e ∷ es) low high = both (leb (first low) (first high)) (both (ltb (first high) e) (bounded es (others low) (others high)))

-- the product of the widths
unfoldable pub box_count : List ℕ → List ℕ → List ℕ → ℕ
box_count [] low high = 1
box_count (e ∷ es) low high = (suc (first high) - first low) * box_count es (others low) (others high)
