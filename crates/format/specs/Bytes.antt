-- Integers as bytes, the lowest byte first (document 01, "The file"). Assumes nothing.
use Rattle.std.specs.Prelude.{ℕ, zero, suc, ◌+◌, ◌*◌, ◌/◌, ◌%◌, List, [], ◌∷◌, ◌++◌, take, drop}

-- x as w bytes, the lowest first
unfoldable pub bytes : ℕ → ℕ → List ℕ
bytes zero x = []
bytes (suc w) x = x % 256 ∷ bytes w (x / 256)

-- the number that bytes stand for
unfoldable pub number : List ℕ → ℕ
number [] = 0
number (x ∷ xs) = x + 256 * number xs

-- several numbers of w bytes each, without gaps
unfoldable pub bytes_of : ℕ → List ℕ → List ℕ
bytes_of w [] = []
bytes_of w (x ∷ xs) = bytes w x ++ bytes_of w xs

-- the w-byte number at an offset; bytes past the end count 0
unfoldable pub field : ℕ → ℕ → List ℕ → ℕ
field w at b = number (take w (drop at b))

-- n numbers of w bytes each from the front of a list
unfoldable pub numbers_of : ℕ → ℕ → List ℕ → List ℕ
numbers_of w zero b = []
numbers_of w (suc n) b = number (take w b) ∷ numbers_of w n (drop w b)
