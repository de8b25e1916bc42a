-- The three lookups (document 01, "The calls"): cell at a position, rank at a position, position of a rank. Assumes nothing.
use Rattle.std.specs.Prelude.{ℕ, ◌≡◌, List, length, get_or, ltb, eqb}
use Rattle.format.specs.Tools.{pick}
use Rattle.format.specs.Signals.{BEYOND}
use Rattle.format.specs.Answers.{Answer, refused, empty, given, answered}
use Rattle.format.specs.Stored.{stored, rank_at}
use Rattle.format.specs.Accepted.{empty_of, words_of, check_number}

-- ---- of a picture's words

unfoldable pub cell_in : List ℕ → ℕ → Answer
cell_in ws p = pick (ltb p (length ws)) (given (get_or ws p 0)) (refused BEYOND)

-- a rank, or "empty" with the number of stored cells before the cell (document 02, S-9): 0 before the first stored cell, N after the last
unfoldable pub rank_in : ℕ → List ℕ → ℕ → Answer
rank_in E ws p = pick (ltb p (length ws)) (pick (eqb (get_or ws p 0) E) (empty (rank_at E ws p)) (given (rank_at E ws p))) (refused BEYOND)

unfoldable pub position_in : ℕ → List ℕ → ℕ → Answer
position_in E ws r = pick (ltb r (length (stored E ws))) (given (get_or (stored E ws) r 0)) (refused BEYOND)

-- ---- of a file's bytes: 1 to 6 of the file come first

unfoldable pub cell_answer : List ℕ → ℕ → Answer
cell_answer b p = answered (check_number b) (cell_in (words_of b) p)

unfoldable pub rank_answer : List ℕ → ℕ → Answer
rank_answer b p = answered (check_number b) (rank_in (empty_of b) (words_of b) p)

unfoldable pub position_answer : List ℕ → ℕ → Answer
position_answer b r = answered (check_number b) (position_in (empty_of b) (words_of b) r)

-- ---- the contracts: what the answer says

pub record CellFound (b : List ℕ) (p : ℕ) (answer : Answer) : Type 0 where
  pub said : answer ≡ cell_answer b p

pub record RankFound (b : List ℕ) (p : ℕ) (answer : Answer) : Type 0 where
  pub said : answer ≡ rank_answer b p

pub record PositionFound (b : List ℕ) (r : ℕ) (answer : Answer) : Type 0 where
  pub said : answer ≡ position_answer b r
