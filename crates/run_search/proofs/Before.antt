-- The cells and the stored cells before a run, as the code reads them. Assumes nothing.
use Prim.Native.Nat.{ℕ, zero, suc, ◌+◌, ◌-◌, ◌*◌, ◌≤◌, ◌<◌}
use mathlib.Core.Path.{◌≡◌, refl, sym, ap}
use mathlib.Core.List.{List}
use native.Mathlib.Nat.{mul-le-mul_left}
use native.Mathlib.Omega.{arith}
use lib.ListN.{length}
use lib.Dec.{leb, ltb}
use Rattle.std.proofs.lemmas.Bool.Decides.{nat_tests}
use Rattle.wire.specs.declared.Pair.{Pair}
use Rattle.wire.specs.Wire.{field_pair}
use Rattle.wire.proofs.Laws.{pair-there}
use Rattle.parts.specs.Last.{LastAtMost}
use Rattle.parts.proofs.Last.{last_as}
use Rattle.run_search.specs.Before.{last_at, empty_at, cells_before, ranks_before, before_by, LastRun}

module _ (b : List ℕ) (s : ℕ) where
  pub first-ranks : (j : ℕ) → j ≡ 0 → 0 ≡ ranks_before b s j
  unfolding ranks_before
  first-ranks j e = rw e

  pub later_ranks : (j : ℕ) → (j ≡ 0 → ⊥) → suc (last_at b s (j - 1)) - empty_at b s (j - 1) ≡ ranks_before b s j
  unfolding ranks_before
  later_ranks zero h = absurd (h refl)
  later_ranks (suc j) h = let z : suc j - 1 ≡ j = omega arith in rw z

  pub few-ranks : (j : ℕ) → ranks_before b s j ≤ cells_before b s j
  unfolding ranks_before cells_before
  few-ranks zero = omega arith
  few-ranks (suc j) = omega arith

  -- by a pair that is in the file
  pub before-there : (g : Pair → ℕ) (j : ℕ) → 0 < j → s + 8 * j ≤ length b → g (field_pair (s + 8 * (j - 1)) b) ≡ before_by g b s j
  unfolding before_by
  before-there g zero k h = absurd (omega arith)
  before-there g (suc j) k h = let z : suc j - 1 ≡ j = omega arith in rw z (sym (ap g (pair-there (s + 8 * j) b (omega arith))))

  -- cells and stored cells by the pair
  pub cells_by : (j : ℕ) → before_by (λ y. suc y.first) b s j ≡ cells_before b s j
  unfolding before_by cells_before
  cells_by zero = refl
  cells_by (suc j) = refl

  pub ranks_by : (j : ℕ) → before_by (λ y. suc y.first - y.second) b s j ≡ ranks_before b s j
  unfolding before_by ranks_before
  ranks_by zero = refl
  ranks_by (suc j) = refl

-- the code's tests of a pair
pub cells_test : (l p : ℕ) → ltb l p ≡ leb (suc l) p
cells_test l p = grind (arith, nat_tests)

pub ranks_test : (l v r : ℕ) → ltb l (r + v) ≡ leb (suc l - v) r
ranks_test l v r = grind (arith, nat_tests)

-- the last run of part i + 1 of n parts stands before the end of them
pub part_room : (low part n i s l : ℕ) → 1 ≤ part → s + 8 * (low + part * n) ≤ l → i < n → (1 ≤ low + part * (i + 1)) × (s + 8 * (low + part * (i + 1)) ≤ l)
part_room low part n i s l k h g =
    let d : i + 1 ≤ n = omega arith in
    let u : 1 ≤ i + 1 = omega arith in
    let m = mul-le-mul_left part d in
    let o = mul-le-mul_left part u in
    (omega arith, omega arith)

-- a file that is too short
pub cut : (e : ℕ → ℕ) (b : List ℕ) (s n x : ℕ) → length b < s + 8 * n → LastRun e b s n x 0
cut e b s n x h = record { most = omega arith; last = λ k. absurd (omega arith) }

pub found : (e : ℕ → ℕ) (b : List ℕ) (s n x r : ℕ) → LastAtMost e (suc n) x r → LastRun e b s n x r
found e b s n x r l = let w = l.within (omega arith) in record { most = omega arith; last = λ k. l }

pub run_as : (e t : ℕ → ℕ) (b : List ℕ) (s n x r : ℕ) → ((i : ℕ) → e i ≡ t i) → LastRun e b s n x r → LastRun t b s n x r
run_as e t b s n x r h l = record { most = l.most; last = λ k. last_as e t (suc n) x r h (l.last k) }
