-- What a file's header says, as numbers in a destination. Assumes nothing.
use Rattle.std.specs.Prelude.{ℕ, ◌≡◌, List, ◌∷◌, length, ltb}
use Rattle.format.specs.Signals.{SMALL, refuse, or_else}
use Rattle.format.specs.Answers.{leaves}
use Rattle.format.specs.Picture.{cells}
use Rattle.format.specs.Accepted.{setting_of, dimensions_of, empty_of, words_count, check_number}
use Rattle.format.specs.Opened.{view_of}

-- kind, width, step, dimension count, cells, E, N, and the extents
unfoldable pub info_of : List ℕ → List ℕ
info_of b =
    (setting_of b).kind ∷ (setting_of b).width ∷ (setting_of b).step ∷ (dimensions_of b).count ∷ cells (dimensions_of b) ∷ empty_of b ∷ words_count b
    ∷ (dimensions_of b).extents

-- the same of any bytes: no cells where the dimensions are not a picture's
unfoldable pub told_of : List ℕ → List ℕ
told_of b =
    (view_of b).kind ∷ (view_of b).width ∷ (view_of b).step ∷ (dimensions_of b).count ∷ (view_of b).cells ∷ (view_of b).empty ∷ (view_of b).words ∷ (dimensions_of b).extents

-- put into a destination that held `before`: 10 where it is shorter
pub record ToldOut (b before : List ℕ) (answer : ℕ) (after : List ℕ) : Type 0 where
  pub number : answer ≡ refuse SMALL (ltb (length before) (length (told_of b))) 0
  pub left : after ≡ leaves answer (told_of b) before

-- the call: 1 to 6, then 10; an accepted file's numbers in the destination's first elements
pub record InfoOut (b before : List ℕ) (answer : ℕ) (after : List ℕ) : Type 0 where
  pub number : answer ≡ or_else (check_number b) (refuse SMALL (ltb (length before) (length (info_of b))) 0)
  pub left : after ≡ leaves answer (info_of b) before
