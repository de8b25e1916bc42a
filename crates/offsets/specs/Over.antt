-- Offsets over a base. Assumes nothing.
use Rattle.std.specs.Prelude.{ℕ, ◌-◌, List, [], ◌∷◌}

-- the offsets of positions from one base
unfoldable pub offsets_over : ℕ → List ℕ → List ℕ
offsets_over base [] = []
offsets_over base (p ∷ ls) = (p - base) ∷ offsets_over base ls
