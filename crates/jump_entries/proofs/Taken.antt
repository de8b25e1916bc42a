-- The positions of a list put out the jumps and the differences. Assumes nothing.
use Prim.Native.Nat.{ℕ, zero, suc, ◌*◌}
use mathlib.Core.Path.{◌≡◌, refl, sym, ap, ap₂, ◌∙◌}
use mathlib.Core.List.{List, [], ◌∷◌, ◌++◌}
use native.Mathlib.Nat.{zero-add}
use native.Mathlib.Numerals.{add-one}
use native.Mathlib.Omega.{arith}
use lib.ListN.{length}
use Rattle.format.specs.Bytes.{bytes, bytes_of}
use Rattle.format.specs.Jumps.{difference, differences_from, differences, jumps_of, jumps}
use Rattle.laws.proofs.Bytes.{length-bytes_of}
use Rattle.parts.specs.declared.Encoder.{Encoder}
use Rattle.parts.specs.Encoder.{if_zero, begun, taken_by, ended_by, taken_all_by, firsts_by, seconds_by}
use Rattle.parts.proofs.Taking.{rank-all, first-all, second-all}
use Rattle.jump_entries.specs.Coding.{difference_at, jumps_coder}
use Rattle.jump_entries.proofs.Adds.{difference_later}

module _ (w : ℕ) where
  later : (e : Encoder) (r p : ℕ) → e.rank ≡ suc r → difference_at w e p ≡ difference w e.last p
  later e r p h = difference_later w e p (λ z. omega arith)

  pub seconds_from : (e : Encoder) (r : ℕ) (ls : List ℕ) → e.rank ≡ suc r → seconds_by (jumps_coder w) e ls ≡ bytes_of w (differences_from w e.last ls)
  unfolding seconds_by jumps_coder taken_by bytes_of differences_from
  seconds_from e r [] h = refl
  seconds_from e r (p ∷ ls) h =
      ap₂ (λ (x y : List ℕ). x ++ y) (ap (bytes w) (later e r p h)) (seconds_from (taken_by (jumps_coder w) e p) e.rank ls (add-one e.rank))

  pub seconds : (f g : ℕ) (ls : List ℕ) → seconds_by (jumps_coder w) (begun f g) ls ≡ bytes_of w (differences w ls)
  unfolding seconds_by jumps_coder taken_by begun difference_at bytes_of differences
  seconds f g [] = refl
  seconds f g (p ∷ ls) = ap (λ (l : List ℕ). bytes w 0 ++ l) (seconds_from (taken_by (jumps_coder w) (begun f g) p) 0 ls refl)

  -- a jump where the difference is 0
  jump_cons : (d p : ℕ) (ds ls : List ℕ) → bytes_of 4 (jumps_of (d ∷ ds) (p ∷ ls)) ≡ if_zero d (bytes 4 p) [] ++ bytes_of 4 (jumps_of ds ls)
  unfolding jumps_of bytes_of
  jump_cons zero p ds ls = refl
  jump_cons (suc d) p ds ls = refl

  pub firsts_from : (e : Encoder) (r : ℕ) (ls : List ℕ) → e.rank ≡ suc r
      → firsts_by (jumps_coder w) e ls ≡ bytes_of 4 (jumps_of (differences_from w e.last ls) ls)
  unfolding firsts_by jumps_coder taken_by differences_from
  firsts_from e r [] h = unfold jumps_of bytes_of in refl
  firsts_from e r (p ∷ ls) h =
      ap₂ (λ (x y : List ℕ). x ++ y) (ap (λ (d : ℕ). if_zero d (bytes 4 p) []) (later e r p h))
      (firsts_from (taken_by (jumps_coder w) e p) e.rank ls (add-one e.rank))
      ∙ sym (jump_cons (difference w e.last p) p (differences_from w p ls) ls)

  pub firsts : (f g : ℕ) (ls : List ℕ) → firsts_by (jumps_coder w) (begun f g) ls ≡ bytes_of 4 (jumps w ls)
  unfolding firsts_by jumps_coder taken_by begun difference_at jumps differences
  firsts f g [] = unfold jumps_of bytes_of in refl
  firsts f g (p ∷ ls) =
      ap (λ (l : List ℕ). bytes 4 p ++ l) (firsts_from (taken_by (jumps_coder w) (begun f g) p) 0 ls refl)
      ∙ sym (jump_cons 0 p (differences_from w p ls) ls)

-- ---- the encoder after all positions and the end

module _ (w : ℕ) (ls : List ℕ) where
  abbrev pub whole : Encoder
  whole = ended_by (jumps_coder w) (taken_all_by (jumps_coder w) (begun 0 0) ls)

  pub whole-rank : whole.rank ≡ length ls
  unfolding ended_by begun
  whole-rank = rank-all (jumps_coder w) (begun 0 0) ls ∙ zero-add (length ls)

  pub whole-first : whole.first ≡ 4 * length (jumps w ls)
  unfolding begun
  whole-first = first-all (jumps_coder w) (begun 0 0) ls ∙ zero-add _ ∙ ap length (firsts w 0 0 ls) ∙ length-bytes_of 4 (jumps w ls)

  pub whole-second : whole.second ≡ length (bytes_of w (differences w ls))
  unfolding begun
  whole-second = second-all (jumps_coder w) (begun 0 0) ls ∙ zero-add _ ∙ ap length (seconds w 0 0 ls)
