-- Bytes put into a list. Assumes nothing.
use Rattle.std.specs.Prelude.{ℕ, suc, List, [], ◌∷◌, ◌++◌, set}
use Rattle.format.specs.Bytes.{bytes}

-- d with bs in place of its elements from index at on; what falls past the end is left out
unfoldable pub put : List ℕ → ℕ → List ℕ → List ℕ
put d at [] = d
put d at (b ∷ bs) = put (set d at b) (suc at) bs

-- two numbers of 4 bytes
unfoldable pub pair : ℕ → ℕ → List ℕ
pair a v = bytes 4 a ++ bytes 4 v
