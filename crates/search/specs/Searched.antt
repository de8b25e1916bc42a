-- What a lookup over a view answers, for any bytes and any view: on an accepted file the definition's answer, and on any other bytes and view one in
-- range. Assumes nothing.
use Rattle.std.specs.Prelude.{ℕ, ◌≡◌, List, ltb}
use Rattle.format.specs.declared.View.{View}
use Rattle.format.specs.Tools.{pick}
use Rattle.format.specs.Signals.{BEYOND}
use Rattle.format.specs.Answers.{Answer, refused, empty, given}
use Rattle.format.specs.Accepted.{empty_of, words_of}
use Rattle.format.specs.Lookups.{cell_in, rank_in, position_in}
use Rattle.format.specs.Opened.{Free, FreeWord}
use Rattle.parts.specs.declared.Found.{Found}
use Rattle.parts.specs.Holds.{ViewOf}

-- the answer of a place: a rank, or "empty" with the stored cells below
abbrev pub rank_from : Found → Answer
rank_from f = pick f.here (given f.below) (empty f.below)

-- the answer of a number that was found for a position: 8 past the cells
abbrev pub position_from : ℕ → ℕ → Answer
position_from q cells = pick (ltb q cells) (given q) (refused BEYOND)

pub record RankSearched (b : List ℕ) (v : View) (p : ℕ) (answer : Answer) : Type 0 where
  pub right : ViewOf b v → answer ≡ rank_in (empty_of b) (words_of b) p
  pub free : Free v.words answer

pub record PositionSearched (b : List ℕ) (v : View) (r : ℕ) (answer : Answer) : Type 0 where
  pub right : ViewOf b v → answer ≡ position_in (empty_of b) (words_of b) r
  pub free : Free v.cells answer

pub record CellSearched (b : List ℕ) (v : View) (p : ℕ) (answer : Answer) : Type 0 where
  pub right : ViewOf b v → answer ≡ cell_in (words_of b) p
  pub free : FreeWord answer
