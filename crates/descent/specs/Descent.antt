-- What the descent of a search finds, for any bytes. Assumes nothing.
use Rattle.std.specs.Prelude.{◌≡◌, ℕ, ◌+◌, ◌-◌, ◌*◌, ◌%◌, ◌^◌, ◌<◌, ◌≤◌, Bool, true, false, List, [], ◌∷◌, length, take, drop, Option, Some, None, ◌==◌, nat_le, nat_lt, slice_index, slice_index_or}
use Rattle.format.specs.Tools.{pick, both, within}
use Rattle.format.specs.Runs.{Span}
use Rattle.format.specs.PagedRuns.{none, plus, less, Place, lost, at}
use Rattle.levels.specs.Levels.{entries, sizes_of, total, cut}
use Rattle.descent.specs.declared.search.Asked.{Asked}
use Rattle.descent.specs.declared.search.Asked.TheVariants as ask

-- a difference of 32 bits
abbrev pub sub32 : ℕ → ℕ → ℕ
sub32 a b = (a + (2 ^ 32 - b)) % 2 ^ 32

-- what a search counts of a pair: its stored cells, or all its cells
abbrev pub counted : Bool → Span → ℕ
counted stored x = pick stored (sub32 x.cells x.empty) x.cells

-- a search keeps the empty cells of a sum
abbrev pub of_empty : ℕ → Span
of_empty e = record { cells = 0; empty = e }

-- a search counts stored cells where it is asked for a rank
abbrev pub for_rank : Asked → Bool
for_rank ask.Place = false
for_rank ask.Rank = true
for_rank ask.Run = true

-- what a number asks: 0 for a place, 2 for a run, each other for a rank
abbrev pub asked_of : ℕ → Asked
asked_of n = pick (n == 0) ask.Place (pick (n == 2) ask.Run ask.Rank)

-- two numbers of 32 bits as one
abbrev pub halves : ℕ → ℕ → ℕ
halves high low = high % 2 ^ 32 * 2 ^ 32 + low

-- what a search answers at the run x, with `before` empty cells before it, where p of the number is left: twice the empty cells up to the number, and 1 more
-- where it stands at a stored cell, as a rank always does; or the empty cells up to a rank, and the ranks from there on in its run
abbrev pub told : Asked → ℕ → ℕ → Span → ℕ
told ask.Place before p x = pick (nat_le x.empty p) (2 * (before + x.empty) + 1) (2 * (before + p))
told ask.Rank before p x = 2 * (before + x.empty) + 1
told ask.Run before p x = halves (before + x.empty) (sub32 (counted true x) p)

-- none where no run is reached
abbrev pub answered : Asked → Place → Option ℕ
answered asked (lost a) = None
answered asked (at i p a x) = Some (told asked a.empty p x)

-- an answer in one number: where there is none 2^64, which no answer is
abbrev pub InOne : Option ℕ → ℕ → Type 0
InOne None n = n ≡ 2 ^ 64
InOne (Some x) n = (n ≡ x) × (n < 2 ^ 64)

-- ---- through pages whose entries are counted: where they rise this is the descent of document 01 (law `counts-descend`)

-- how many of these entries count at most p
unfoldable pub passed : (Span → ℕ) → ℕ → List Span → ℕ
passed m p [] = 0
passed m p (y ∷ ys) = pick (nat_le (m y) p) 1 0 + passed m p ys

-- the entry to the left of the one after k entries; at the page's first entry 0
abbrev pub left_of : List Span → ℕ → Span
left_of ys k = slice_index_or (none ∷ ys) k none

-- the entry after k entries of a page that begins at entry i, with the number less the entry to the left
unfoldable pub place_after : (Span → ℕ) → ℕ → ℕ → Span → List Span → ℕ → Place
place_after m i p a ys k =
    let c = left_of ys k in
    pick (nat_lt k (length ys)) (at (i + k) (sub32 p (m c)) (plus a c) (less (slice_index_or ys k none) c)) (lost (plus a c))

-- from an entry to the page below it, past the entries that count at most the number
abbrev pub page_down : (Span → ℕ) → ℕ → List Span → Place → Place
page_down m b ys (lost a) = lost a
page_down m b ys (at j p a x) = let page = take b (drop (j * b) ys) in place_after m (j * b) p a page (passed m p page)

-- through levels, the top first
unfoldable pub levels_down : (Span → ℕ) → ℕ → List (List Span) → Place → Place
levels_down m b [] q = q
levels_down m b (ys ∷ lower) q = levels_down m b lower (page_down m b ys q)

-- ---- the two functions of the search

-- from an entry of a level to the levels below it, which begin at entry `from`
unfoldable pub descended : List Span → List ℕ → ℕ → Bool → ℕ → ℕ → Place → Place
descended es sizes step stored level from q = levels_down (counted stored) step (cut sizes level (drop from es)) q

-- the `left` entries of a page, from entry `first` of the level on
abbrev pub page_at : List Span → ℕ → ℕ → ℕ → List Span
page_at es from first left = take left (drop (from + first) es)

-- along the entries of a page, and from the entry that is found to the levels below
unfoldable pub walked : List Span → List ℕ → ℕ → Bool → ℕ → ℕ → ℕ → ℕ → ℕ → ℕ → Place
walked es sizes step stored level from first left before p =
    descended es sizes step stored level (from + slice_index sizes level)
    (place_after (counted stored) first p (of_empty before) (page_at es from first left) (passed (counted stored) p (page_at es from first left)))

-- the page's size and the number of runs can be those of an accepted file
abbrev pub numbers_fit : ℕ → ℕ → Bool
numbers_fit step runs = both (within 2 64 step) (nat_le runs 16777216)

-- from the top page down, where all levels are in the file
unfoldable pub searched : List ℕ → ℕ → ℕ → ℕ → Asked → ℕ → Option ℕ
searched file start step runs asked number =
    let sizes = sizes_of step runs in
    let all = answered asked (descended (entries start file) sizes step (for_rank asked) (length sizes) 0 (at 0 number none none)) in
    pick (numbers_fit step runs) (pick (nat_le (start + 8 * total sizes (length sizes)) (length file)) all None) None

-- A walk along the `left` entries of a page, in a level whose first entry is `from`, with `level` levels below it: all of them are in the file, and the
-- empty cells of the page's left neighbours can be added up.
pub record PageFits (file : List ℕ) (start : ℕ) (sizes : List ℕ) (step level from first left before : ℕ) : Type 0 where
  pub inside : start + 8 * (from + slice_index sizes level + total sizes level) ≤ length file
  pub long : length file < 2 ^ 64
  pub page : first + left ≤ slice_index sizes level
  pub few : left ≤ 64
  pub levels : level < 24
  pub sum : before + (level + 1) * 2 ^ 32 ≤ 2 ^ 40
  pub steps : step ≤ 64

-- The same of a descent to the `level` levels that begin at `from`, at least one.
pub record LevelsFit (file : List ℕ) (start : ℕ) (sizes : List ℕ) (step level from entry before : ℕ) : Type 0 where
  pub inside : start + 8 * (from + total sizes level) ≤ length file
  pub long : length file < 2 ^ 64
  pub number : entry < 2 ^ 32
  pub some : 1 ≤ level
  pub levels : level ≤ 24
  pub sum : before + level * 2 ^ 32 ≤ 2 ^ 40
  pub steps : step ≤ 64
