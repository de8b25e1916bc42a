-- The lookups over the header's own counts (document 01, "The calls": an opened file that somebody put together over unchecked bytes). Assumes nothing.
use Rattle.std.specs.Prelude.{ℕ, ◌≡◌, List}
use Rattle.format.specs.Signals.{BEYOND}
use Rattle.format.specs.Answers.{Answer, refused}
use Rattle.format.specs.File.{WholeHeader}
use Rattle.format.specs.Accepted.{words_count, check_number}
use Rattle.format.specs.Lookups.{cell_answer, rank_answer, position_answer}
use Rattle.format.specs.Opened.{view_of, Free, FreeWord}

-- on an accepted file the direct call's answer, on bytes without a whole header 8, and on any other bytes one in range
pub record Unchecked (b : List ℕ) (direct : Answer) (InRange : Answer → Type 0) (answer : Answer) : Type 0 where
  pub right : check_number b ≡ 0 → answer ≡ direct
  pub short : (WholeHeader b → ⊥) → answer ≡ refused BEYOND
  pub free : InRange answer

abbrev pub cell_unchecked : List ℕ → ℕ → Answer → Type 0
cell_unchecked b p = Unchecked b (cell_answer b p) FreeWord

abbrev pub rank_unchecked : List ℕ → ℕ → Answer → Type 0
rank_unchecked b p = Unchecked b (rank_answer b p) (Free (words_count b))

abbrev pub position_unchecked : List ℕ → ℕ → Answer → Type 0
position_unchecked b r = Unchecked b (position_answer b r) (Free (view_of b).cells)
