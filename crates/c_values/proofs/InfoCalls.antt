-- A header's numbers into a destination, case by case, and those of an accepted file. Assumes nothing.
use Prim.Native.Nat.{ℕ, zero, suc, ◌≤◌, ◌<◌}
use mathlib.Core.Path.{◌≡◌, refl, ap, ◌∙◌}
use mathlib.Core.List.{List, [], ◌∷◌, ◌++◌}
use lib.ListN.{length, get_or, drop}
use borrow.Author.Tests.{lt-ltb, le-ltb}
use Rattle.format.specs.declared.Dimensions.{Dimensions}
use Rattle.format.specs.declared.View.{View}
use Rattle.format.specs.Bytes.{numbers_of}
use Rattle.format.specs.Signals.{SMALL}
use Rattle.format.specs.Picture.{cells, most_dimensions}
use Rattle.format.specs.Accepted.{dimensions_of, check_number}
use Rattle.format.specs.Opened.{view_of}
use Rattle.laws.proofs.Check.{length-numbers_of}
use Rattle.c_values.specs.Info.{info_of, told_of, ToldOut, InfoOut}
use Rattle.c_values.proofs.Four.{four-numbers}

module _ (b : List ℕ) where
  pub told_length : length (told_of b) ≡ 11
  unfolding told_of dimensions_of
  told_length = rw (length-numbers_of 4 most_dimensions (drop 4 b))

  -- the numbers that were read
  pub numbers_told : (v : View) (d : Dimensions) → v ≡ view_of b → d ≡ dimensions_of b
      → v.kind ∷ v.width ∷ v.step ∷ d.count ∷ v.cells ∷ v.empty ∷ v.words ∷ get_or d.extents 0 0 ∷ get_or d.extents 1 0 ∷ get_or d.extents 2 0
      ∷ get_or d.extents 3 0 ∷ []
      ≡ told_of b
  unfolding told_of dimensions_of
  numbers_told v d e f = rw (e, f, four-numbers (numbers_of 4 most_dimensions (drop 4 b)) (length-numbers_of 4 most_dimensions (drop 4 b)))

  told_info : (view_of b).cells ≡ cells (dimensions_of b) → told_of b ≡ info_of b
  unfolding told_of info_of view_of
  told_info k = rw k

  module _ (before : List ℕ) where
    pub told_small : length before < 11 → ToldOut b before SMALL before
    told_small h = record { number = rw (told_length, lt-ltb (length before) 11 h); left = refl }

    pub told_given : (ns after : List ℕ) → ns ≡ told_of b → 11 ≤ length before → after ≡ ns ++ drop (length ns) before → ToldOut b before 0 after
    told_given ns after e h a = record { number = rw (told_length, le-ltb (length before) 11 h); left = a ∙ ap (λ (l : List ℕ). l ++ drop (length l) before) e }

    -- the call: a refused file
    pub info_refused : (n : ℕ) → n ≡ check_number b → (n ≡ 0 → ⊥) → InfoOut b before n before
    info_refused zero e h = absurd (h refl)
    info_refused (suc n) e h = record { number = rw (← e); left = refl }

    -- and an accepted one, whose dimensions are a picture's
    pub info_told : check_number b ≡ 0 → (view_of b).cells ≡ cells (dimensions_of b) → (n : ℕ) (after : List ℕ) → ToldOut b before n after → InfoOut b before n after
    info_told e k n after t = record { number = rw (e, ← told_info k) t.number; left = rw (← told_info k) t.left }
