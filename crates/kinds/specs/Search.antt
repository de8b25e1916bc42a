-- Which kinds have the position of a rank at a place that the rank gives. Assumes nothing.
use Rattle.std.specs.Prelude.{ℕ, ◌≡◌, ◌⊎◌}

abbrev pub placed_by_rank : ℕ → Type 0
placed_by_rank k = (k ≡ 2) ⊎ (k ≡ 3)
