-- Level 0 as it stands in bytes, and the sums along a level above it. Assumes nothing.
use Rattle.std.specs.Prelude.{ℕ, ◌+◌, ◌-◌, ◌*◌, ◌^◌, ◌≤◌, ◌<◌, ◌≡◌, List, [], ◌∷◌, length, drop, eqb}
use Rattle.format.specs.Tools.{pick}
use Rattle.format.specs.Bytes.{numbers_of}
use Rattle.format.specs.Runs.{Span}
use Rattle.format.specs.PagedRuns.{none, plus, lasts, upper_entries, spans_in}
use Rattle.wire.specs.Wire.{field_pair}
use Rattle.levels.specs.declared.put.Sums.{Sums}
use Rattle.levels.specs.Levels.{span_of}

-- the n entries that stand in the bytes from `at` on
unfoldable pub level_in : List ℕ → ℕ → ℕ → List Span
level_in b n at = spans_in (numbers_of 4 (2 * n) (drop at b))

-- all pairs together
unfoldable pub pair_sum : List Span → Span
pair_sum [] = none
pair_sum (x ∷ xs) = plus x (pair_sum xs)

-- A level of n entries stands in b from `at` on, and no sum of its pages passes 32 bits.
pub record Stands (b : List ℕ) (step n at : ℕ) : Type 0 where
  pub step-least : 2 ≤ step
  pub step-most : step ≤ 64
  pub most : n ≤ 16777216
  pub room : at + 8 * n ≤ length b
  pub cells : (pair_sum (lasts step (level_in b n at))).cells < 2 ^ 32
  pub empty : (pair_sum (lasts step (level_in b n at))).empty < 2 ^ 32

-- Level 0 stands in b from `second` on, past the room from `start` on for the levels above it.
pub record LevelZero (b : List ℕ) (start step runs second : ℕ) : Type 0 where
  pub stands : Stands b step runs second
  pub second_at_lem : second ≡ start + 8 * upper_entries step runs

-- ---- as the code holds them

-- the entry at an offset
abbrev pub span_at : List ℕ → ℕ → Span
span_at b at = span_of (field_pair at b)

-- the sum of a page so far
abbrev pub sum_in : Sums → Span
sum_in s = record { cells = s.cells; empty = s.empty }

-- after one more entry below with the pair x: with none left in the page, the sum begins anew
abbrev pub summed : ℕ → Sums → Span → Sums
summed b s x =
    record {
      left = pick (eqb s.left 0) (b - 1) (s.left - 1);
      cells = pick (eqb s.left 0) x.cells (s.cells + x.cells);
      empty = pick (eqb s.left 0) x.empty (s.empty + x.empty);
    }
