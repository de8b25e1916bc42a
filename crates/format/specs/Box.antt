-- A box to words in row order (document 01, "The calls"): low and high coordinates, inclusive. Assumes nothing.
use Rattle.std.specs.Prelude.{ℕ, suc, ◌+◌, ◌-◌, ◌*◌, ◌≡◌, Bool, true, not, List, [], ◌∷◌, map, length, get_or, leb, ltb}
use Rattle.format.specs.declared.Dimensions.{Dimensions}
use Rattle.format.specs.Tools.{both, first, others, range, joined}
use Rattle.format.specs.Signals.{BEYOND, SMALL, refuse, or_else}
use Rattle.format.specs.Answers.{leaves}
use Rattle.format.specs.Picture.{inside}
use Rattle.format.specs.Accepted.{dimensions_of, words_of, check_number}

-- no low coordinate is above its high one
unfoldable pub ordered : List ℕ → List ℕ → List ℕ → Bool
ordered [] low high = true
ordered (e ∷ es) low high = both (leb (first low) (first high)) (ordered es (others low) (others high))

-- 8 does not apply: both corners lie inside, and low is not above high
unfoldable pub box_allowed : Dimensions → List ℕ → List ℕ → Bool
box_allowed d low high = both (inside d low) (both (inside d high) (ordered d.extents low high))

-- the positions of the box in row order; p is the position of the coordinates before
unfoldable pub box_from : ℕ → List ℕ → List ℕ → List ℕ → List ℕ
box_from p [] low high = p ∷ []
box_from p (e ∷ es) low high =
    joined (λ c. box_from (p * e + c) es (others low) (others high)) (range (first low) (suc (first high) - first low))

unfoldable pub box_positions : Dimensions → List ℕ → List ℕ → List ℕ
box_positions d low high = box_from 0 d.extents low high

unfoldable pub box_words : List ℕ → List ℕ → List ℕ → List ℕ
box_words b low high = map (λ p. get_or (words_of b) p 0) (box_positions (dimensions_of b) low high)

-- the file's 1 to 6, then 8, then 10
unfoldable pub box_number : List ℕ → List ℕ → List ℕ → ℕ → ℕ
box_number b low high room =
    or_else (check_number b)
    (refuse BEYOND (not (box_allowed (dimensions_of b) low high)) (refuse SMALL (ltb room (length (box_words b low high))) 0))

-- the contract; the destination counts words
pub record Boxed (b low high before : List ℕ) (answer : ℕ) (after : List ℕ) : Type 0 where
  pub number : answer ≡ box_number b low high (length before)
  pub left : after ≡ leaves answer (box_words b low high) before
