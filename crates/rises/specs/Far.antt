-- Rising positions that are further from the one before than a number: where kind 4 jumps, and where the runs of kinds 1 and 5 end. Assumes nothing.
use Rattle.std.specs.Prelude.{ℕ, ◌+◌, ◌-◌, List, [], ◌∷◌, nat_le}
use Rattle.format.specs.Tools.{pick}
use Rattle.rises.specs.Falls.{fallen}

-- of the positions after p, so many are further than `most` from the one before
unfoldable pub far_after : ℕ → ℕ → List ℕ → ℕ
far_after most p [] = 0
far_after most p (q ∷ ls) = fallen (nat_le (q - p) most) + far_after most q ls

-- the same of all positions but the first
unfoldable pub far : ℕ → List ℕ → ℕ
far most [] = 0
far most (p ∷ ls) = far_after most p ls

-- the indices of the positions that another run follows; p has the index i
unfoldable pub ends_after : ℕ → ℕ → List ℕ → List ℕ
ends_after i p [] = []
ends_after i p (q ∷ ls) = pick (nat_le (q - p) 1) (ends_after (i + 1) q ls) (i ∷ ends_after (i + 1) q ls)

-- the same of all positions; the first has the index 0
unfoldable pub ends_of : List ℕ → List ℕ
ends_of [] = []
ends_of (p ∷ ls) = ends_after 0 p ls
