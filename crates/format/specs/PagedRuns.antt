-- Kind 5, paged runs (document 01, "The file"): the length pairs of the runs, accumulated page by page, in levels. Assumes nothing.
use Rattle.std.specs.Prelude.{ℕ, zero, suc, ◌+◌, ◌-◌, ◌*◌, false, List, [], ◌∷◌, ◌++◌, length, take, drop, leb, ltb, eqb}
use Rattle.format.specs.Tools.{pick, up_to, both, within}
use Rattle.format.specs.Signals.{BEYOND}
use Rattle.format.specs.Answers.{Answer, refused, empty, given}
use Rattle.format.specs.Bytes.{bytes_of, numbers_of}
use Rattle.format.specs.Codec.{Codec, Parts}
use Rattle.format.specs.Runs.{Span, runs, spans, positions_from}

abbrev pub none : Span
none = record { cells = 0; empty = 0 }

abbrev pub plus : Span → Span → Span
plus a x = record { cells = a.cells + x.cells; empty = a.empty + x.empty }

abbrev pub less : Span → Span → Span
less x a = record { cells = x.cells - a.cells; empty = x.empty - a.empty }

-- the sum of each pair with those before it in its page of b; k more pairs belong to the page that has the sum a so far
unfoldable pub sums_from : ℕ → ℕ → Span → List Span → List Span
sums_from b k a [] = []
sums_from b zero a (x ∷ xs) = x ∷ sums_from b (b - 1) x xs
sums_from b (suc k) a (x ∷ xs) = plus a x ∷ sums_from b k (plus a x) xs

-- a level of these pairs, in pages of b: an entry is the sum of the pairs from its page's start through itself
unfoldable pub level : ℕ → List Span → List Span
level b xs = sums_from b 0 none xs

-- the last entry of each page; k more entries belong to the page of the entry x
unfoldable pub lasts_from : ℕ → ℕ → Span → List Span → List Span
lasts_from b k x [] = x ∷ []
lasts_from b zero x (y ∷ ys) = x ∷ lasts_from b (b - 1) y ys
lasts_from b (suc k) x (y ∷ ys) = lasts_from b k y ys

unfoldable pub lasts : ℕ → List Span → List Span
lasts b [] = []
lasts b (x ∷ xs) = lasts_from b (b - 1) x xs

-- The levels above a level, the top first: while a level has more than b entries there is one more, of the last entries of its pages.
-- `n` bounds the number of levels; the number of entries is large enough.
unfoldable pub levels_above : ℕ → ℕ → List Span → List Span
levels_above zero b ys = []
levels_above (suc n) b ys =
    let up = level b (lasts b ys) in
    let all = levels_above n b up ++ up in
    pick (leb (length ys) b) [] all

unfoldable pub upper_levels : ℕ → List Span → List Span
upper_levels b ys = levels_above (length ys) b ys

-- how many entries the levels above a level of v entries have
unfoldable pub entries_above : ℕ → ℕ → ℕ → ℕ
entries_above zero b v = 0
entries_above (suc n) b v =
    let all = entries_above n b (up_to v b) + up_to v b in
    pick (leb v b) 0 all

unfoldable pub upper_entries : ℕ → ℕ → ℕ
upper_entries b v = entries_above v b v

-- the length pairs back from level 0
unfoldable pub pairs_from : ℕ → ℕ → Span → List Span → List Span
pairs_from b k a [] = []
pairs_from b zero a (y ∷ ys) = y ∷ pairs_from b (b - 1) y ys
pairs_from b (suc k) a (y ∷ ys) = less y a ∷ pairs_from b k y ys

unfoldable pub pairs_of : ℕ → List Span → List Span
pairs_of b ys = pairs_from b 0 none ys

-- pairs as a plain list of numbers, and back
unfoldable pub flat_spans : List Span → List ℕ
flat_spans [] = []
flat_spans (x ∷ xs) = x.cells ∷ x.empty ∷ flat_spans xs

unfoldable pub spans_in : List ℕ → List Span
spans_in [] = []
spans_in (c ∷ []) = []
spans_in (c ∷ e ∷ ns) = record { cells = c; empty = e } ∷ spans_in ns

-- second part: level 0 of the length pairs; first part: the other levels, top first; 4 bytes each number
unfoldable pub paged_parts : ℕ → List Span → Parts
paged_parts b xs =
    record {
      first_count = length (upper_levels b (level b xs));
      first = bytes_of 4 (flat_spans (upper_levels b (level b xs)));
      second_count = length xs;
      second = bytes_of 4 (flat_spans (level b xs));
    }

-- width 0, step 2 to 64; the number of runs is at most N, and gives that of the upper entries
unfoldable pub pages_kind : ℕ → ℕ → Codec
pages_kind w b =
    record {
      allowed = both (eqb w 0) (within 2 64 b);
      counts = λ cells n c1 c2. both (eqb c1 (upper_entries b c2)) (leb c2 n);
      first_bytes = λ c1 c2. 8 * c1;
      second_bytes = λ c1 c2. 8 * c2;
      parts = λ cells ls. paged_parts b (spans (runs ls));
      unfit = λ ls. false;
      positions = λ c1 b1 c2 b2. positions_from 0 (pairs_of b (spans_in (numbers_of 4 (2 * c2) b2)));
    }

-- ---- the descent, over any list of pairs

-- what a search counts of a pair: all its cells (a position is looked for), or its stored cells (a rank is)
abbrev pub all_cells : Span → ℕ
all_cells x = x.cells

abbrev pub stored_cells : Span → ℕ
stored_cells x = x.cells - x.empty

-- the entry i, the number p left within it, the sum a of the pairs before it, and its own pair x; or, where no entry exceeds the number, the sum of them all
pub data Place : Type 0 where
  lost : Span → Place
  at : ℕ → ℕ → Span → Span → Place

-- along a page from entry i on: the first entry whose count exceeds the number, with the number less the entry c to the left
unfoldable pub walk_from : (Span → ℕ) → ℕ → ℕ → Span → Span → List Span → Place
walk_from m i p a c [] = lost (plus a c)
walk_from m i p a c (y ∷ ys) =
    let later = walk_from m (suc i) p a y ys in
    pick (ltb p (m y)) (at i (p - m c) (plus a c) (less y c)) later

-- from an entry to the page below it, which has the entry's index; at the page's first entry the entry to the left is 0
abbrev pub step_down : (Span → ℕ) → ℕ → List Span → Place → Place
step_down m b ys (lost a) = lost a
step_down m b ys (at j p a x) = walk_from m (j * b) p a none (take b (drop (j * b) ys))

-- through levels, the top first
unfoldable pub through : (Span → ℕ) → ℕ → List (List Span) → Place → Place
through m b [] q = q
through m b (ys ∷ lower) q = through m b lower (step_down m b ys q)

-- the levels of pairs, the top first, level 0 last: those of the two parts, one after the other (law `levels-in-file`)
unfoldable pub levels : ℕ → ℕ → List Span → List (List Span)
levels zero b xs = level b xs ∷ []
levels (suc n) b xs =
    let all = levels n b (lasts b (level b xs)) ++ (level b xs ∷ []) in
    pick (leb (length xs) b) (level b xs ∷ []) all

-- from the top page down to level 0
unfoldable pub descent : (Span → ℕ) → ℕ → List Span → ℕ → Place
descent m b xs p = through m b (levels (length xs) b xs) (at 0 p none none)

-- the rank at the place of a position: a run's first cells are empty, and before them stand the stored cells of the pairs before; where no entry exceeds
-- it, the cell is empty, and all stored cells stand before it
abbrev pub rank_at_place : Place → Answer
rank_at_place (lost a) = empty (a.cells - a.empty)
rank_at_place (at i p a x) = pick (ltb p x.empty) (empty (a.cells - a.empty)) (given (a.cells - a.empty + (p - x.empty)))

-- the position at the place of a rank
abbrev pub position_at_place : Place → Answer
position_at_place (lost a) = refused BEYOND
position_at_place (at i r a x) = given (a.cells + x.empty + r)
