-- Four numbers, and what another number of extents or coordinates says. Assumes nothing.
use Prim.Native.Nat.{ℕ}
use mathlib.Core.Path.{◌≡◌, refl, sym, ◌∙◌}
use mathlib.Core.Bool.{false, not}
use mathlib.Core.List.{List, [], ◌∷◌}
use native.Mathlib.Omega.{arith}
use lib.ListN.{length, get_or}
use lib.Dec.{eqb}
use lib.Dec.{eqb}
use borrow.Author.Tests.{eqb-true, eq-eqb, ne_eqb}
use Rattle.format.specs.declared.Dimensions.{Dimensions}
use Rattle.format.specs.Tools.{within}
use Rattle.format.specs.Signals.{EXTENT}
use Rattle.format.specs.Picture.{dimensions_allowed, most_dimensions, inside}
use Rattle.c_values.specs.Extents.{extents_number}
use Rattle.laws.proofs.Tools.{cases, not-false, refuse-zero}

pub four-numbers : (l : List ℕ) → length l ≡ most_dimensions → get_or l 0 0 ∷ get_or l 1 0 ∷ get_or l 2 0 ∷ get_or l 3 0 ∷ [] ≡ l
four-numbers [] h = absurd (omega arith)
four-numbers (a ∷ []) h = absurd (omega arith)
four-numbers (a ∷ b ∷ []) h = absurd (omega arith)
four-numbers (a ∷ b ∷ c ∷ []) h = absurd (omega arith)
four-numbers (a ∷ b ∷ c ∷ d ∷ []) h = refl
four-numbers (a ∷ b ∷ c ∷ d ∷ e ∷ l) h = absurd (omega arith)

-- another number of extents is not allowed
pub not-four : (d : Dimensions) → (length d.extents ≡ most_dimensions → ⊥) → dimensions_allowed d ≡ false
unfolding dimensions_allowed
not-four d h = cases (within 1 most_dimensions d.count) (λ t. rw (t, ne_eqb (length d.extents) most_dimensions h)) (λ t. rw t)

-- accepted extents are four
pub extents_four : (es : List ℕ) (n : ℕ) → n ≡ extents_number es → n ≡ 0 → length es ≡ most_dimensions
unfolding extents_number
extents_four es n e z =
    let t = eqb (length es) most_dimensions in
    eqb-true (length es) most_dimensions (not-false t (refuse-zero 3 (not t) 0 (sym e ∙ z)).0)

-- refused extents are another number of them
module _ (es : List ℕ) (h : extents_number es ≡ 0 → ⊥) where
  pub extents_other : length es ≡ most_dimensions → ⊥
  unfolding extents_number
  extents_other f = h (rw (eq-eqb (length es) most_dimensions f))

  pub extents_refused : extents_number es ≡ EXTENT
  unfolding extents_number
  extents_refused = rw (ne_eqb (length es) most_dimensions extents_other)

-- another number of coordinates lies not inside
pub not-inside : (d : Dimensions) (cs : List ℕ) → eqb (length cs) most_dimensions ≡ false → inside d cs ≡ false
unfolding inside
not-inside d cs h = rw h
