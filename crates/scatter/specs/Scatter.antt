-- Words put at positions, one after the other. Assumes nothing.
use Rattle.std.specs.Prelude.{ℕ, List, [], ◌∷◌, set}
use Rattle.format.specs.Tools.{first, others}

unfoldable pub scattered : List ℕ → List ℕ → List ℕ → List ℕ
scattered d [] vs = d
scattered d (l ∷ ls) vs = scattered (set d l (first vs)) ls (others vs)
