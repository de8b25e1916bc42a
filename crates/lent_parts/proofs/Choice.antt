-- The number of two files, and the file that is handed back. Assumes nothing.
use Prim.Native.Nat.{ℕ, ◌≤◌, ◌<◌}
use mathlib.Core.Path.{◌≡◌, ◌∙◌}
use mathlib.Core.Bool.{Bool, true, false}
use mathlib.Core.List.{List, []}
use lib.ListN.{length}
use denote.Ref.{Bor}
use borrow.Author.Tests.{lt-ltb, le-ltb, ne_eqb}
use Rattle.format.specs.Signals.{OTHER}
use Rattle.format.specs.Accepted.{check_number}
use Rattle.format.specs.Shorter.{same_picture, shorter_number, ShorterPart}
use Rattle.checked.proofs.Number.{first-refused}

-- ---- the number

module _ (b₁ b₂ : List ℕ) where
  pub first-number : (n : ℕ) → n ≡ check_number b₁ → (n ≡ 0 → ⊥) → n ≡ shorter_number b₁ b₂
  unfolding shorter_number
  first-number n e h = first-refused n (check_number b₁) _ e h

  module _ (h₁ : check_number b₁ ≡ 0) where
    pub second-number : (n : ℕ) → n ≡ check_number b₂ → (n ≡ 0 → ⊥) → n ≡ shorter_number b₁ b₂
    unfolding shorter_number
    second-number n e h = rw h₁ (first-refused n (check_number b₂) _ e h)

    module _ (h₂ : check_number b₂ ≡ 0) (q : Bool) (e : q ≡ same_picture b₁ b₂) where
      pub other_picture : q ≡ false → OTHER ≡ shorter_number b₁ b₂
      unfolding shorter_number
      other_picture z = rw (h₁, h₂, ← e, z)

      pub same_picture_lem : q ≡ true → 0 ≡ shorter_number b₁ b₂
      unfolding shorter_number
      same_picture_lem z = rw (h₁, h₂, ← e, z)

-- ---- the file

module _ (x₁ x₂ : Bor (List ℕ)) (n : ℕ) (number : n ≡ shorter_number x₁.now x₂.now) where
  pub no_file : (r : Bor (List ℕ)) → (n ≡ 0 → ⊥) → r.now ≡ [] → ShorterPart x₁ x₂ r
  no_file r h e = record { bytes = rw (← number, ne_eqb n 0 h) e; own = λ z. absurd (h (number ∙ z)) }

  module _ (z : n ≡ 0) where
    pub second-file : length x₂.now < length x₁.now → ShorterPart x₁ x₂ x₂
    second-file h =
        let t = lt-ltb (length x₂.now) (length x₁.now) h in
        record { bytes = rw (← number, z, t); own = λ y. rw t }

    pub first-file : length x₁.now ≤ length x₂.now → ShorterPart x₁ x₂ x₁
    first-file h =
        let t = le-ltb (length x₂.now) (length x₁.now) h in
        record { bytes = rw (← number, z, t); own = λ y. rw t }
