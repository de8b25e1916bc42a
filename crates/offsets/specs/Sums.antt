-- The offsets of ranks in a file, and a base added to them. Assumes nothing.
use Rattle.std.specs.Prelude.{ℕ, ◌+◌, ◌*◌, ◌^◌, ◌<◌, ◌≤◌, List, [], ◌∷◌, length}
use Rattle.wire.specs.Wire.{entry_size, add32}

-- the offsets of n ranks from a rank on, of 1 or 2 bytes, are all in the file
pub record There (b : List ℕ) (width second rank n : ℕ) : Type 0 where
  pub size : 1 ≤ entry_size width
  pub ranks : rank + n < 2 ^ 32
  pub long : second + entry_size width * (rank + n) ≤ length b

-- each of the numbers with the base added
unfoldable pub sums : ℕ → List ℕ → List ℕ
sums base [] = []
sums base (x ∷ xs) = add32 base x ∷ sums base xs
