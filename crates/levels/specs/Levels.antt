-- The levels of a paged file as code reads them, for any bytes. Assumes nothing.
use Rattle.std.specs.Prelude.{ℕ, zero, suc, ◌+◌, ◌*◌, ◌≤◌, ◌≡◌, List, [], ◌∷◌, length, take, drop, get_or, leb}
use Rattle.format.specs.Tools.{pick, up_to}
use Rattle.format.specs.Bytes.{numbers_of}
use Rattle.format.specs.Runs.{Span}
use Rattle.format.specs.PagedRuns.{spans_in}
use Rattle.wire.specs.declared.Pair.{Pair}

abbrev pub span_of : Pair → Span
span_of x = record { cells = x.first; empty = x.second }

-- the entries from an offset on, one after the other; bytes past the end count 0
unfoldable pub entries : ℕ → List ℕ → List Span
entries start b = spans_in (numbers_of 4 (2 * length b) (drop start b))

-- the sizes of the levels above a level of v entries, the nearest first; n bounds their number
unfoldable pub sizes_above : ℕ → ℕ → ℕ → List ℕ
sizes_above zero b v = []
sizes_above (suc n) b v =
    let all = up_to v b ∷ sizes_above n b (up_to v b) in
    pick (leb v b) [] all

-- the sizes of the levels over v runs, level 0 first: a file that is accepted has at most 24
unfoldable pub sizes_of : ℕ → ℕ → List ℕ
sizes_of b v = v ∷ sizes_above 23 b v

-- the entries of the first n levels
abbrev pub total : List ℕ → ℕ → ℕ
total sizes zero = 0
total sizes (suc n) = get_or sizes n 0 + total sizes n

-- the lowest n levels of these sizes, the highest first, from a list that begins with them
abbrev pub cut : List ℕ → ℕ → List Span → List (List Span)
cut sizes zero es = []
cut sizes (suc n) es = take (get_or sizes n 0) es ∷ cut sizes n (drop (get_or sizes n 0) es)

-- an array of 24 sizes begins with those of the levels over v runs; there are `count`, with n entries
pub record Sized (b v : ℕ) (sizes : List ℕ) (count n : ℕ) : Type 0 where
  pub levels : take count sizes ≡ sizes_of b v
  pub room : length sizes ≡ 24
  pub count_most : count ≤ 24
  pub entries-most : n ≤ 24 * 16777216
  pub sum : n ≡ total sizes count
