-- A level above level 0 as the check goes along it. Assumes nothing.
use Rattle.std.specs.Prelude.{ℕ, ◌+◌, ◌*◌, ◌≤◌, ◌≡◌, Bool, List, length, eqb}
use Rattle.format.specs.declared.View.{View}
use Rattle.format.specs.Tools.{pick, both, same, up_to}
use Rattle.format.specs.Runs.{Span}
use Rattle.format.specs.PagedRuns.{upper_entries, flat_spans}
use Rattle.wire.specs.declared.Pair.{Pair}
use Rattle.parts.specs.Encoder.{left_after}
use Rattle.levels.specs.declared.check.Compared.{Compared}

-- past one more entry, with the last entry of its page below
abbrev pub compared_with : ℕ → Compared → Pair → Span → Compared
compared_with b s u x =
    record {
      left = left_after b s.left;
      sum = u;
      right =
          both s.right
          (both (eqb u.first (pick (eqb s.left 0) 0 s.sum.first + x.cells)) (eqb u.second (pick (eqb s.left 0) 0 s.sum.second + x.empty)));
    }

abbrev pub same_spans : List Span → List Span → Bool
same_spans xs ys = same (flat_spans xs) (flat_spans ys)

-- ---- what the header tells

-- both parts are in the file, one behind the other, and their counts are those of kind 5
pub record Inside (file : List ℕ) (v : View) : Type 0 where
  pub low : 2 ≤ v.step
  pub high : v.step ≤ 64
  pub firsts : v.firsts ≡ upper_entries v.step v.seconds
  pub seconds : v.seconds ≤ 16777216
  pub second : v.second ≡ v.start + 8 * v.firsts
  pub long : v.start + 8 * (v.firsts + v.seconds) ≤ length file

-- a level and the one below it are in the file
pub record LevelInside (file : List ℕ) (start step first size below under : ℕ) : Type 0 where
  pub low : 2 ≤ step
  pub high : step ≤ 64
  pub size_of : size ≡ up_to under step
  pub most : under ≤ 16777216
  pub long : start + 8 * (first + size) ≤ length file
  pub long-below : start + 8 * (below + under) ≤ length file
