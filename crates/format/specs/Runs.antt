-- Kind 1, runs (document 01, "The file"), and what kinds 1 and 5 share: runs and their length pairs. Assumes nothing.
use Rattle.std.specs.Prelude.{ℕ, suc, ◌+◌, ◌-◌, ◌*◌, false, List, [], ◌∷◌, ◌++◌, length, eqb, leb, ltb}
use Rattle.format.specs.Tools.{pick, both, range, unless}
use Rattle.format.specs.Signals.{BEYOND}
use Rattle.format.specs.Answers.{Answer, refused, empty, given}
use Rattle.format.specs.Bytes.{bytes_of, numbers_of}
use Rattle.format.specs.Codec.{Codec, Parts}

-- A run's pair: L_j, the position of its last cell, and V_j, the empty cells up to there.
pub record Run : Type 0 where
  pub last : ℕ
  pub empty : ℕ

-- the run that ends at position p of rank r: up to there stand r + 1 stored cells, the others are empty
unfoldable pub run_at : ℕ → ℕ → Run
run_at p r = record { last = p; empty = p - r }

-- the run of position p, of rank r, and the later runs, where ls are the later stored positions: the run ends at p unless the next cell is stored too
unfoldable pub runs_from : ℕ → ℕ → List ℕ → List Run
runs_from p r [] = run_at p r ∷ []
runs_from p r (l ∷ ls) = unless (eqb l (suc p)) (run_at p r) (runs_from l (suc r) ls)

-- the runs of the stored positions; v is their number, and may be 0
unfoldable pub runs : List ℕ → List Run
runs [] = []
runs (l ∷ ls) = runs_from l 0 ls

-- A run's length pair: all its cells, and the empty ones that it begins with.
pub record Span : Type 0 where
  pub cells : ℕ
  pub empty : ℕ

-- (L_j - L_(j-1), V_j - V_(j-1)); `end` is L_(j-1) + 1 and v is V_(j-1)
unfoldable pub spans_from : ℕ → ℕ → List Run → List Span
spans_from end v [] = []
spans_from end v (x ∷ xs) =
    record { cells = suc x.last - end; empty = x.empty - v } ∷ spans_from (suc x.last) x.empty xs

-- before the first run L is -1, so `end` is 0, and V is 0
unfoldable pub spans : List Run → List Span
spans xs = spans_from 0 0 xs

-- the stored positions back from length pairs, the first of which begins at `at`
unfoldable pub positions_from : ℕ → List Span → List ℕ
positions_from at [] = []
positions_from at (x ∷ xs) = range (at + x.empty) (x.cells - x.empty) ++ positions_from (at + x.cells) xs

-- pairs as a plain list of numbers, and back
unfoldable pub flat_runs : List Run → List ℕ
flat_runs [] = []
flat_runs (x ∷ xs) = x.last ∷ x.empty ∷ flat_runs xs

unfoldable pub runs_in : List ℕ → List Run
runs_in [] = []
runs_in (l ∷ []) = []
runs_in (l ∷ v ∷ ns) = record { last = l; empty = v } ∷ runs_in ns

-- first part: the pairs, 4 bytes each number; no second part
unfoldable pub run_parts : List ℕ → Parts
run_parts ls = record { first_count = length (runs ls); first = bytes_of 4 (flat_runs (runs ls)); second_count = 0; second = [] }

-- width and step 0; the number of runs is at most N
unfoldable pub runs_kind : ℕ → ℕ → Codec
runs_kind w l =
    record {
      allowed = both (eqb w 0) (eqb l 0);
      counts = λ cells n c1 c2. both (leb c1 n) (eqb c2 0);
      first_bytes = λ c1 c2. 8 * c1;
      second_bytes = λ c1 c2. 0;
      parts = λ cells. run_parts;
      unfit = λ ls. false;
      positions = λ c1 b1 c2 b2. positions_from 0 (spans (runs_in (numbers_of 4 (2 * c1) b1)));
    }

-- ---- kind 1's rule, over any list of runs

-- For L_(j-1) < p <= L_j the cell is stored when L_(j-1) + V_j - V_(j-1) < p, and its rank is p - V_j. Before an empty cell stand the stored cells up to
-- L_(j-1), and after the last run all. `end` and v as above.
unfoldable pub run_rank_from : ℕ → ℕ → ℕ → List Run → Answer
run_rank_from end v p [] = empty (end - v)
run_rank_from end v p (x ∷ xs) =
    let later = run_rank_from (suc x.last) x.empty p xs in
    pick (leb p x.last) (pick (leb (end + (x.empty - v)) p) (given (p - x.empty)) (empty (end - v))) later

unfoldable pub run_rank : List Run → ℕ → Answer
run_rank xs p = run_rank_from 0 0 p xs

-- the position of rank r: a run's stored cells have ranks below L_j + 1 - V_j, and the position of rank r is r + V_j
unfoldable pub run_position : List Run → ℕ → Answer
run_position [] r = refused BEYOND
run_position (x ∷ xs) r =
    let later = run_position xs r in
    pick (ltb r (suc x.last - x.empty)) (given (r + x.empty)) later
