-- The answers of a box, case by case. Assumes nothing.
use Prim.Native.Nat.{ℕ, zero, suc, ◌≤◌, ◌<◌}
use mathlib.Core.Path.{◌≡◌, refl, sym, ◌∙◌}
use mathlib.Core.Bool.{true, false}
use mathlib.Core.List.{List}
use lib.ListN.{length}
use borrow.Author.Tests.{lt-ltb, le-ltb}
use Rattle.format.specs.declared.Dimensions.{Dimensions}
use Rattle.format.specs.Signals.{BEYOND, SMALL}
use Rattle.format.specs.Answers.{leaves}
use Rattle.format.specs.Picture.{dimensions_allowed}
use Rattle.format.specs.Accepted.{dimensions_of, check_number}
use Rattle.format.specs.Opened.{view_of}
use Rattle.format.specs.Box.{box_allowed, box_words, box_number, Boxed}
use Rattle.laws.proofs.Acceptance.{accepted, header-right}
use Rattle.box_region.specs.Bounds.{box_count}
use Rattle.box_rows.proofs.Whole.{length_box_words}

pub box_refused : (b low high before : List ℕ) (n : ℕ) → n ≡ check_number b → (n ≡ 0 → ⊥) → Boxed b low high before n before
unfolding box_number
box_refused b low high before zero e h = absurd (h refl)
box_refused b low high before (suc n) e h = record { number = rw (← e); left = refl }

-- the dimensions of an accepted file
pub dimensions-right : (b : List ℕ) (d : Dimensions) → check_number b ≡ 0 → d ≡ dimensions_of b → dimensions_allowed d ≡ true
dimensions-right b d z e = rw e (header-right b (accepted b z).header).dims

module _ (b low high before : List ℕ) (d : Dimensions) (right : check_number b ≡ 0) (e : d ≡ dimensions_of b) where
  pub box_beyond : box_allowed d low high ≡ false → Boxed b low high before BEYOND before
  unfolding box_number
  box_beyond h = record { number = rw (right, ← e, h); left = refl }

  module _ (allowed : box_allowed d low high ≡ true) (count : ℕ) (counted : count ≡ box_count d.extents low high) where
    as_long : length (box_words b low high) ≡ count
    as_long = length_box_words b (view_of b) d low high (record { accepted = right; view = refl }) e ∙ sym counted

    pub box_small : length before < count → Boxed b low high before SMALL before
    unfolding box_number
    box_small h = record { number = rw (right, ← e, allowed, as_long, lt-ltb (length before) count h); left = refl }

    pub box_fills : (after : List ℕ) → count ≤ length before → after ≡ leaves 0 (box_words b low high) before → Boxed b low high before 0 after
    unfolding box_number
    box_fills after h f = record { number = rw (right, ← e, allowed, as_long, le-ltb (length before) count h); left = f }
