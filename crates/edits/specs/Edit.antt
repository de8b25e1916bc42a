-- One cell laid over a file: the stored positions and words after it. Assumes nothing.
use Rattle.std.specs.Prelude.{ℕ, ◌+◌, ◌-◌, ◌≤◌, ◌≡◌, List, [], ◌∷◌, ◌++◌, take, drop, set, Option, Some, None}
use Rattle.std.specs.Option.{option_and}
use Rattle.format.specs.declared.Position.{Position}
use Rattle.format.specs.Stored.{stored, kept}
use Rattle.format.specs.Picture.{cells}
use Rattle.format.specs.Accepted.{dimensions_of, empty_of, words_count, positions_of, kept_of, words_of}
use Rattle.laws.proofs.Stored.{Rising}
use Rattle.edits.specs.declared.Edit.{Edit}

-- what stands in a list for a number that may not be there
abbrev pub listed : Option ℕ → List ℕ
listed None = []
listed (Some n) = n ∷ []

abbrev pub position_in : Option Position → List ℕ
position_in None = []
position_in (Some p) = p.0 ∷ []

-- the stored positions after the edit, and the stored words with w as the new one
unfoldable pub edited : Edit → List ℕ → List ℕ
edited x ls = take x.before ls ++ position_in x.added ++ drop x.after ls

unfoldable pub overlaid : Edit → ℕ → List ℕ → List ℕ
overlaid x w vs = take x.before vs ++ listed (option_and x.added (Some w)) ++ drop x.after vs

-- the ranks that the edit leaves out
abbrev pub left_out : Edit → List ℕ → List ℕ
left_out x ls = take (x.after - x.before) (drop x.before ls)

-- an edit of the file b: the ranks are there, at most one is left out, and the positions rise
pub record EditOf (b : List ℕ) (x : Edit) : Type 0 where
  pub ordered : x.before ≤ x.after
  pub near : x.after ≤ x.before + 1
  pub inside : x.after ≤ words_count b
  pub rising : Rising 0 (cells (dimensions_of b)) (edited x (positions_of b))

-- the edit x with the word w gives the picture in which w is written at p
pub record Writes (b : List ℕ) (p w : ℕ) (x : Edit) : Type 0 where
  pub edit : EditOf b x
  pub positions : edited x (positions_of b) ≡ stored (empty_of b) (set (words_of b) p w)
  pub words : overlaid x w (kept_of b) ≡ kept (empty_of b) (set (words_of b) p w)
