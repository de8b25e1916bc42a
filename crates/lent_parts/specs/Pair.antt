-- What two files have in common, as the code compares them. Assumes nothing.
use Rattle.std.specs.Prelude.{ℕ, ◌≡◌, Bool, List, drop, eqb}
use Rattle.format.specs.declared.View.{View}
use Rattle.format.specs.Tools.{both, same}
use Rattle.format.specs.Bytes.{field, numbers_of}
use Rattle.parts.specs.Holds.{ViewOf}

-- the same dimension count, extents, E and N
unfoldable pub same_header : List ℕ → List ℕ → Bool
same_header b₁ b₂ = both (eqb (field 1 1 b₁) (field 1 1 b₂)) (same (numbers_of 4 6 (drop 4 b₁)) (numbers_of 4 6 (drop 4 b₂)))

-- v and w are the views of two accepted files with the same N
pub record Views (b₁ : List ℕ) (v : View) (b₂ : List ℕ) (w : View) : Type 0 where
  pub first : ViewOf b₁ v
  pub second : ViewOf b₂ w
  pub count : v.words ≡ w.words
