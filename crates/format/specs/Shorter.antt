-- The shorter of two files of one picture, handed back as the caller's own bytes, the first on equal length (document 01, "The calls"). A refusal hands
-- back an empty part; a companion call gives the number. Assumes nothing.
use Rattle.std.specs.Prelude.{ℕ, ◌≡◌, Bool, not, List, [], length, ltb, eqb}
use Rattle.std.specs.Borrow.{Bor}
use Rattle.format.specs.Tools.{pick, both, same}
use Rattle.format.specs.Signals.{OTHER, refuse, or_else}
use Rattle.format.specs.Accepted.{dimensions_of, empty_of, words_of, check_number}

-- 11 does not apply: dimensions, E and words are the same
unfoldable pub same_picture : List ℕ → List ℕ → Bool
same_picture b₁ b₂ =
    both (eqb (dimensions_of b₁).count (dimensions_of b₂).count)
    (both (same (dimensions_of b₁).extents (dimensions_of b₂).extents)
    (both (eqb (empty_of b₁) (empty_of b₂)) (same (words_of b₁) (words_of b₂))))

-- 1 to 6 of the first file, 1 to 6 of the second, then 11
unfoldable pub shorter_number : List ℕ → List ℕ → ℕ
shorter_number b₁ b₂ = or_else (check_number b₁) (or_else (check_number b₂) (refuse OTHER (not (same_picture b₁ b₂)) 0))

-- the second where it is shorter, else the first: for bytes, and for the lent slices themselves
abbrev pub shorter_of {ℓ} : {X : Type ℓ} → ℕ → ℕ → X → X → X
shorter_of n₁ n₂ x₁ x₂ = pick (ltb n₂ n₁) x₂ x₁

-- the contract: the bytes handed back, and, where the call is accepted, that it is the caller's own slice
pub record ShorterPart (x₁ x₂ r : Bor (List ℕ)) : Type 0 where
  pub bytes : r.now ≡ pick (eqb (shorter_number x₁.now x₂.now) 0) (shorter_of (length x₁.now) (length x₂.now) x₁.now x₂.now) []
  pub own : shorter_number x₁.now x₂.now ≡ 0 → r ≡ shorter_of (length x₁.now) (length x₂.now) x₁ x₂
