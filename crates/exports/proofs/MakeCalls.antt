-- What make answers to extents that are not four numbers. Assumes nothing.
use Prim.Native.Nat.{ℕ}
use mathlib.Core.Path.{◌≡◌, sym, ap, subst, ◌∙◌}
use mathlib.Core.List.{List}
use native.Mathlib.Omega.{arith}
use mathlib.Core.Bool.{false}
use lib.ListN.{length}
use lib.Dec.{eqb}
use borrow.Author.Tests.{eqb-false}
use Rattle.format.specs.declared.Dimensions.{Dimensions}
use Rattle.format.specs.declared.Setting.{Setting}
use Rattle.format.specs.Signals.{EXTENT, or_else}
use Rattle.format.specs.Picture.{most_dimensions}
use Rattle.format.specs.Calls.{setting_number, Made}
use Rattle.checked.proofs.Number.{setting_later}
use Rattle.making.specs.Known.{picture_number}
use Rattle.making.proofs.Making.{setting-refused, make_refused}
use Rattle.c_values.specs.Extents.{dimensions}
use Rattle.c_values.proofs.Four.{not-four}

module _ (s : Setting) (d : Dimensions) (E : ℕ) (ws before : List ℕ) where
  pub four-setting : (n : ℕ) → n ≡ setting_number s 0 → (n ≡ 0 → ⊥) → Made s d E ws before n before
  four-setting n e z = make_refused s d E ws before n (setting-refused s d (length ws) n e z) z

  module _ (h : eqb (length d.extents) most_dimensions ≡ false) (t : setting_number s 0 ≡ 0) where
    extent_number : EXTENT ≡ picture_number s d (length ws)
    unfolding picture_number
    extent_number =
        sym
        (rw (not-four d (eqb-false (length d.extents) most_dimensions h))
        (setting_later s 0 EXTENT ∙ ap (λ (x : ℕ). or_else x EXTENT) t))

    pub four_extent : Made s d E ws before EXTENT before
    four_extent = make_refused s d E ws before EXTENT extent_number (λ k. omega arith)

-- the same extents
pub same-made : (s : Setting) (c : ℕ) (es fs : List ℕ) → es ≡ fs → (E : ℕ) (ws before : List ℕ) (n : ℕ) (after : List ℕ)
    → Made s (dimensions c es) E ws before n after → Made s (dimensions c fs) E ws before n after
same-made s c es fs e E ws before n after m = subst (λ (t : List ℕ). Made s (dimensions c t) E ws before n after) e m
