-- The ends of a group's offsets. Assumes nothing.
use Rattle.std.specs.Prelude.{ℕ, ◌-◌, Bool, List, [], ◌∷◌, ◌==◌, nat_lt}
use Rattle.format.specs.Tools.{both, first, others}

-- the last of the numbers; p where there is none
unfoldable pub last_after : ℕ → List ℕ → ℕ
last_after p [] = p
last_after p (x ∷ xs) = last_after x xs

-- a group by its first and its last offset alone: they are 0 and below the next base
unfoldable pub group_ends : ℕ → ℕ → List ℕ → Bool
group_ends base next os = both (first os == 0) (nat_lt (last_after (first os) (others os)) (next - base))
