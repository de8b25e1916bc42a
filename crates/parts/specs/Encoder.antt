-- The encoder: how positions go into the two parts of a file, one at a time, by any kind. Assumes nothing.
use Rattle.std.specs.Prelude.{ℕ, zero, suc, ◌+◌, ◌-◌, Bool, true, false, not, List, [], ◌∷◌, ◌++◌, length, ◌==◌}
use Rattle.parts.specs.declared.Encoder.{Encoder}
use Rattle.parts.specs.declared.Sizes.{Sizes}

-- x where the number is 0, else y
abbrev pub if_zero {ℓ} : {X : Type ℓ} → ℕ → X → X → X
if_zero zero x y = x
if_zero (suc n) x y = y

-- nothing taken; the parts begin at f and g
unfoldable pub begun : ℕ → ℕ → Encoder
begun f g = record { rank = 0; last = 0; left = 0; base = 0; cells = 0; empty = 0; first = f; second = g; fits = true }

-- what a kind keeps beside the count, the last position and the places: the base or the page that it is in, and the fit
pub record Inside : Type 0 where
  pub left : ℕ
  pub base : ℕ
  pub cells : ℕ
  pub empty : ℕ
  pub fits : Bool

-- how a kind takes position p: the bytes that p adds to each part, what is kept after it, and the bytes added at the end; the sizes of the file after the end; and what is
-- made when both parts are put out
pub record Coder : Type 0 where
  pub first : Encoder → ℕ → List ℕ
  pub second : Encoder → ℕ → List ℕ
  pub inside : Encoder → ℕ → Inside
  pub end_first : Encoder → List ℕ
  pub end_second : Encoder → List ℕ
  pub sizes : Encoder → Sizes
  -- by the sizes and the place of the first part: a destination in which the parts stand as they were put out, with what is made of them afterwards
  pub derived : Sizes → ℕ → List ℕ → List ℕ

unfoldable pub unchanged : Encoder → Inside
unchanged e = record { left = e.left; base = e.base; cells = e.cells; empty = e.empty; fits = e.fits }

-- of l ranks that a base serves, or entries that a page takes, so many are left after one more; where none was left it is the first of l
unfoldable pub left_after : ℕ → ℕ → ℕ
left_after l left = if_zero left (l - 1) (left - 1)

-- a run ends before p: there is one, and p is not the cell after it
unfoldable pub run_ends : Encoder → ℕ → Bool
run_ends e p = if_zero e.rank false (not (p == e.last + 1))

-- the bytes are the encoder's, the counts c1 and c2
abbrev pub sizes_as : Encoder → ℕ → ℕ → Sizes
sizes_as e c1 c2 = record { words = e.rank; firsts = c1; seconds = c2; first = e.first; second = e.second }

-- ---- one more position, the end, and all positions of a list

-- the encoder after p
unfoldable pub taken_by : Coder → Encoder → ℕ → Encoder
taken_by k e p =
    record {
      rank = e.rank + 1;
      last = p;
      left = (k.inside e p).left;
      base = (k.inside e p).base;
      cells = (k.inside e p).cells;
      empty = (k.inside e p).empty;
      first = e.first + length (k.first e p);
      second = e.second + length (k.second e p);
      fits = (k.inside e p).fits;
    }

-- the encoder after the end
unfoldable pub ended_by : Coder → Encoder → Encoder
ended_by k e =
    record {
      rank = e.rank;
      last = e.last;
      left = e.left;
      base = e.base;
      cells = e.cells;
      empty = e.empty;
      first = e.first + length (k.end_first e);
      second = e.second + length (k.end_second e);
      fits = e.fits;
    }

-- what the positions and the end add to each part, and the encoder after the positions
unfoldable pub firsts_by : Coder → Encoder → List ℕ → List ℕ
firsts_by k e [] = k.end_first e
firsts_by k e (p ∷ ls) = k.first e p ++ firsts_by k (taken_by k e p) ls

unfoldable pub seconds_by : Coder → Encoder → List ℕ → List ℕ
seconds_by k e [] = k.end_second e
seconds_by k e (p ∷ ls) = k.second e p ++ seconds_by k (taken_by k e p) ls

unfoldable pub taken_all_by : Coder → Encoder → List ℕ → Encoder
taken_all_by k e [] = e
taken_all_by k e (p ∷ ls) = taken_all_by k (taken_by k e p) ls
