-- The product of the extents as it is counted: one extent after the other, given up at the first that is not allowed. Assumes nothing.
use Rattle.std.specs.Prelude.{ℕ, zero, suc, ◌-◌, ◌*◌, Bool, List, [], ◌∷◌, leb, eqb}
use Rattle.format.specs.Tools.{pick, both}
use Rattle.format.specs.Picture.{most_cells}

-- the extent of a dimension is at least 1, one past the dimension count is 1; n dimensions are left
abbrev pub extent_allowed : ℕ → ℕ → Bool
extent_allowed zero e = eqb 1 e
extent_allowed (suc n) e = leb 1 e

-- the product c, continued over the extents es, of which n are dimensions; 0 where one is not allowed, or the product passes the most
unfoldable pub count_from : ℕ → ℕ → List ℕ → ℕ
count_from n c [] = c
count_from n c (e ∷ es) =
    let later = count_from (n - 1) (c * e) es in
    pick (both (extent_allowed n e) (leb (c * e) most_cells)) later 0
