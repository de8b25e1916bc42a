-- A batch of positions: what is put out for those after the first. Assumes nothing.
use Rattle.std.specs.Prelude.{ℕ, List, [], ◌∷◌}
use Rattle.format.specs.Jumps.{differences_from, jumps_of}

-- the differences of all positions but the first, and the jumps among these positions
unfoldable pub later_differences : ℕ → List ℕ → List ℕ
later_differences w [] = []
later_differences w (p ∷ ls) = differences_from w p ls

unfoldable pub later_jumps : ℕ → List ℕ → List ℕ
later_jumps w [] = []
later_jumps w (p ∷ ls) = jumps_of (differences_from w p ls) ls
