-- The jumps below a rank. Assumes nothing.
use Prim.Native.Nat.{ℕ, zero, suc, ◌+◌, ◌*◌, ◌<◌}
use mathlib.Core.Path.{◌≡◌, refl, ◌∙◌}
use mathlib.Core.Bool.{true}
use mathlib.Core.List.{List}
use native.Mathlib.Nat.{add-zero}
use native.Mathlib.Numerals.{add-one}
use native.Mathlib.Omega.{arith}
use borrow.Author.Tests.{eqb-true}
use Rattle.format.specs.Bytes.{field}
use Rattle.parts.specs.Encoder.{if_zero}
use Rattle.parts.proofs.Taking.{if_more}
use Rattle.differences.specs.Walk.{plain, zeros}
use Rattle.differences.proofs.Sums.{none-counted}
use Rattle.jump_pass.specs.Pass.{jumps_below}

module _ (w second : ℕ) (b : List ℕ) where
  module _ (i : ℕ) {d : ℕ} (e : d ≡ field w (second + w * i) b) where
    below_next : jumps_below w second b (i + 1) ≡ jumps_below w second b i + if_zero d 1 0
    unfolding jumps_below
    below_next = rw (add-one i, e)

    pub below-difference : 0 < d → jumps_below w second b (i + 1) ≡ jumps_below w second b i
    below-difference h = let n = if_more {X = ℕ} d 1 0 (λ z. omega arith) in let s = below_next in omega arith

    pub below_jump : d ≡ 0 → jumps_below w second b (i + 1) ≡ jumps_below w second b i + 1
    below_jump h = rw h at below_next

  -- those below the n-th rank after rank r: those up to r, and those among the n
  pub below-zeros : (r n : ℕ) → jumps_below w second b (suc r + n) ≡ jumps_below w second b (suc r) + zeros w second b r n
  unfolding jumps_below zeros
  below-zeros r zero = rw (add-zero (suc r), add-zero)
  below-zeros r (suc n) =
      let e : suc r + suc n ≡ suc (r + suc n) = omega arith in
      let f : r + suc n ≡ suc r + n = omega arith in
      rw e (let z = rw (← f) at (below-zeros r n) in omega arith)

  -- none where all of them have a difference
  pub below_plain : (r n : ℕ) → plain w second b r n ≡ true → jumps_below w second b (suc r + n) ≡ jumps_below w second b (suc r)
  below_plain r n h =
      let e = below-zeros r n in
      let z = eqb-true (zeros w second b r n) 0 (none-counted w second b r n refl ∙ h) in
      omega arith
