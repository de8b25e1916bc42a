-- The shorter of two files is one of the two, no longer than either, and the first on equal length; when two files are of one picture. Assumes nothing.
use Prim.Native.Nat.{ℕ, ◌≤◌}
use mathlib.Core.Path.{◌≡◌, refl}
use mathlib.Core.Logic.{◌↔◌, ◌⊎◌, inl, inr}
use mathlib.Core.Bool.{true}
use mathlib.Core.List.{List}
use native.Mathlib.Nat.{le_refl}
use native.Mathlib.Omega.{arith}
use lib.ListN.{length}
use lib.Dec.{eqb, ltb}
use borrow.Author.Tests.{eqb-true, eq-eqb, ltb-true, ltb-false, le-ltb}
use Rattle.format.specs.Tools.{same}
use Rattle.format.specs.declared.Dimensions.{Dimensions}
use Rattle.format.specs.Accepted.{dimensions_of, empty_of, words_of}
use Rattle.format.specs.Shorter.{same_picture, shorter_of}
use Rattle.laws.proofs.Tools.{cases, both_true, same_refl, same_true}

pub dimensions_path : {c c' : ℕ} {es es' : List ℕ} → c ≡ c' → es ≡ es' → ◌≡◌ {A = Dimensions} (record { count = c; extents = es }) (record { count = c'; extents = es' })
dimensions_path p q = cc

pub one_of_two {ℓ} : {X : Type ℓ} (n₁ n₂ : ℕ) (x₁ x₂ : X) → (shorter_of n₁ n₂ x₁ x₂ ≡ x₁) ⊎ (shorter_of n₁ n₂ x₁ x₂ ≡ x₂)
one_of_two n₁ n₂ x₁ x₂ = cases (ltb n₂ n₁) (λ e. inr (rw e)) (λ e. inl (rw e))

pub no_longer : (x₁ x₂ : List ℕ)
    → (length (shorter_of (length x₁) (length x₂) x₁ x₂) ≤ length x₁) × (length (shorter_of (length x₁) (length x₂) x₁ x₂) ≤ length x₂)
no_longer x₁ x₂ =
    cases (ltb (length x₂) (length x₁))
    (λ e. let t = ltb-true (length x₂) (length x₁) e in rw e (omega arith, le_refl _))
    (λ e. let t = ltb-false (length x₂) (length x₁) e in rw e (le_refl _, t))

pub first_on_equal {ℓ} : {X : Type ℓ} (n : ℕ) (x₁ x₂ : X) → shorter_of n n x₁ x₂ ≡ x₁
first_on_equal n x₁ x₂ = rw (le-ltb n n (le_refl n))

-- 11 does not apply exactly when dimensions, E and words are the same
pub same_picture_iff : (b₁ b₂ : List ℕ)
    → (same_picture b₁ b₂ ≡ true) ↔ ((dimensions_of b₁ ≡ dimensions_of b₂) × (empty_of b₁ ≡ empty_of b₂) × (words_of b₁ ≡ words_of b₂))
unfolding same_picture
same_picture_iff b₁ b₂ = (only, made)
  where
    only : same_picture b₁ b₂ ≡ true → (dimensions_of b₁ ≡ dimensions_of b₂) × (empty_of b₁ ≡ empty_of b₂) × (words_of b₁ ≡ words_of b₂)
    only h =
        let t1 = both_true (eqb (dimensions_of b₁).count (dimensions_of b₂).count) _ h in
        let t2 = both_true (same (dimensions_of b₁).extents (dimensions_of b₂).extents) _ t1.1 in
        let t3 = both_true (eqb (empty_of b₁) (empty_of b₂)) _ t2.1 in (
          dimensions_path (eqb-true _ _ t1.0) (same_true _ _ t2.0),
          eqb-true _ _ t3.0,
          same_true _ _ t3.1,
        )

    made : (dimensions_of b₁ ≡ dimensions_of b₂) × (empty_of b₁ ≡ empty_of b₂) × (words_of b₁ ≡ words_of b₂) → same_picture b₁ b₂ ≡ true
    made h =
        let d = h.0 in
        let e = h.1 in
        let w = h.2 in
        rw (d, e, w, eq-eqb (dimensions_of b₂).count (dimensions_of b₂).count refl, same_refl (dimensions_of b₂).extents, eq-eqb (empty_of b₂) (empty_of b₂) refl) (same_refl (words_of b₂))
