-- What the searches read and find in the pairs of kind 1 from the place s on, over any bytes. Assumes nothing.
use Rattle.std.specs.Prelude.{◌≡◌, ℕ, zero, suc, ◌+◌, ◌-◌, ◌*◌, ◌^◌, ◌<◌, ◌≤◌, Bool, List, length, nat_le}
use Rattle.wire.specs.declared.Pair.{Pair}
use Rattle.wire.specs.Wire.{pair_at}
use Rattle.parts.specs.Last.{LastAtMost, passing}

-- L_j and V_j
abbrev pub last_at : List ℕ → ℕ → ℕ → ℕ
last_at b s j = (pair_at (s + 8 * j) b).first

abbrev pub empty_at : List ℕ → ℕ → ℕ → ℕ
empty_at b s j = (pair_at (s + 8 * j) b).second

-- the cells up to the end of the run before run j, L_(j-1) + 1: run j and the empty cells before it begin there
unfoldable pub cells_before : List ℕ → ℕ → ℕ → ℕ
cells_before b s zero = 0
cells_before b s (suc j) = suc (last_at b s j)

-- the stored ones of them, L_(j-1) + 1 - V_(j-1): the first rank of run j
unfoldable pub ranks_before : List ℕ → ℕ → ℕ → ℕ
ranks_before b s zero = 0
ranks_before b s (suc j) = suc (last_at b s j) - empty_at b s j

-- the same by any number of a pair
unfoldable pub before_by : (Pair → ℕ) → List ℕ → ℕ → ℕ → ℕ
before_by g b s zero = 0
before_by g b s (suc j) = g (pair_at (s + 8 * j) b)

-- a test of pairs, by what it can answer: it passes exactly where g of the pair is at most x
abbrev pub Tells : (Pair → Bool → Type 0) → (Pair → ℕ) → ℕ → Type 0
Tells post g x = (y : Pair) (r : Bool) → y.first < 2 ^ 32 → y.second < 2 ^ 32 → post y r → r ≡ nat_le (g y) x

-- what a search among n runs answers: run r, or n after them all; where the file has their pairs, and `before` rises from run to run, it is the last with at most x before it
pub record LastRun (before : ℕ → ℕ) (b : List ℕ) (s n x r : ℕ) : Type 0 where
  pub most : r ≤ n
  pub last : s + 8 * n ≤ length b → LastAtMost before (suc n) x r

-- c of the n parts of `part` runs each, from run `low` on, have a last run that passes, whatever the test tells
abbrev pub PartsPassed : (Pair → Bool → Type 0) → List ℕ → ℕ → ℕ → ℕ → ℕ → ℕ → Type 0
PartsPassed post b s low part n c = (g : Pair → ℕ) (x : ℕ) → Tells post g x → c ≡ passing (λ i. nat_le (before_by g b s (low + part * i)) x) n

-- the search by a test, whatever it tells
abbrev pub FoundBy : (Pair → Bool → Type 0) → List ℕ → ℕ → ℕ → ℕ → Type 0
FoundBy post b s n r = (g : Pair → ℕ) (x : ℕ) → Tells post g x → LastRun (before_by g b s) b s n x r
