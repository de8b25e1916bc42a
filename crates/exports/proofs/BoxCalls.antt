-- What a box answers to corners that have not four numbers. Assumes nothing.
use Prim.Native.Nat.{ℕ, zero, suc}
use mathlib.Core.Path.{◌≡◌, refl, sym, ◌∙◌, subst}
use mathlib.Core.Bool.{false}
use mathlib.Core.List.{List}
use native.Mathlib.Omega.{arith}
use lib.ListN.{length}
use lib.Dec.{eqb}
use Rattle.format.specs.declared.Dimensions.{Dimensions}
use Rattle.format.specs.Signals.{BEYOND, or_else}
use Rattle.format.specs.Answers.{leaves}
use Rattle.format.specs.Picture.{inside, most_dimensions}
use Rattle.format.specs.Accepted.{dimensions_of, check_number}
use Rattle.format.specs.Box.{box_allowed, box_number, Boxed}
use Rattle.laws.proofs.Tools.{cases, or_else-zero}
use Rattle.c_values.proofs.Four.{not-inside}

module _ (d : Dimensions) (low high : List ℕ) where
  low-not-four : eqb (length low) most_dimensions ≡ false → box_allowed d low high ≡ false
  unfolding box_allowed
  low-not-four h = rw (not-inside d low h)

  high-not-four : eqb (length high) most_dimensions ≡ false → box_allowed d low high ≡ false
  unfolding box_allowed
  high-not-four h = cases (inside d low) (λ t. rw (t, not-inside d high h)) (λ t. rw t)

-- a refusal alters nothing
unaltered : (n : ℕ) (out before : List ℕ) → (n ≡ 0 → ⊥) → before ≡ leaves n out before
unaltered zero out before h = absurd (h refl)
unaltered (suc n) out before h = refl

module _ (b low high before : List ℕ) (n : ℕ) (e : n ≡ or_else (check_number b) BEYOND) where
  some : n ≡ 0 → ⊥
  some z = let t = (or_else-zero (check_number b) BEYOND (sym e ∙ z)).1 in omega arith

  outside : box_allowed (dimensions_of b) low high ≡ false → Boxed b low high before n before
  unfolding box_number
  outside h = record { number = rw h e; left = unaltered n _ before some }

  pub low_corner : eqb (length low) most_dimensions ≡ false → Boxed b low high before n before
  low_corner h = outside (low-not-four (dimensions_of b) low high h)

  pub high_corner : eqb (length high) most_dimensions ≡ false → Boxed b low high before n before
  high_corner h = outside (high-not-four (dimensions_of b) low high h)

-- the same corners
pub same-boxed : (b low high l h before : List ℕ) → low ≡ l → high ≡ h → (n : ℕ) (after : List ℕ) → Boxed b low high before n after
    → Boxed b l h before n after
same-boxed b low high l h before e f n after o =
    subst (λ (t : List ℕ). Boxed b t h before n after) e (subst (λ (t : List ℕ). Boxed b low t before n after) f o)
