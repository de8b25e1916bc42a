-- What a search finds among n numbers e 0, e 1, ..: the last that is at most x. Assumes nothing.
use Rattle.std.specs.Prelude.{ℕ, zero, suc, ◌+◌, ◌<◌, ◌≤◌, Bool}
use Rattle.format.specs.Tools.{pick}

-- each number is above those before it
abbrev pub Ascending : (ℕ → ℕ) → ℕ → Type 0
Ascending e n = (i j : ℕ) → i < j → j < n → e i < e j

-- r is the index of a number; where they rise, that number is at most x unless it is the first, and all after it are above x
pub record LastAtMost (e : ℕ → ℕ) (n x r : ℕ) : Type 0 where
  pub within : 0 < n → r < n
  pub low : Ascending e n → 0 < r → e r ≤ x
  pub high : Ascending e n → (k : ℕ) → r < k → k < n → x < e k

-- how many of the tests 1 to n pass
unfoldable pub passing : (ℕ → Bool) → ℕ → ℕ
passing t zero = 0
passing t (suc n) = passing t n + pick (t (suc n)) 1 0
