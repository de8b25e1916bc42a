-- The differences after a rank: where they lie, how many are 0, and their sum. Assumes nothing.
use Prim.Native.Nat.{ℕ, zero, suc, ◌+◌, ◌-◌, ◌*◌, ◌≤◌, ◌<◌}
use mathlib.Core.Path.{◌≡◌, refl, ◌∙◌}
use mathlib.Core.Bool.{Bool, true, false, not}
use mathlib.Core.List.{List}
use native.Mathlib.Nat.{add-zero, mul-suc, mul-le-mul_left, le_refl}
use native.Mathlib.Numerals.{add-one}
use native.Mathlib.Omega.{arith}
use lib.Dec.{eqb}
use borrow.Author.Tests.{ne_eqb}
use Rattle.format.specs.Tools.{both, pick}
use Rattle.format.specs.Bytes.{field}
use Rattle.parts.specs.Encoder.{if_zero}
use Rattle.differences.specs.Walk.{plain, zeros, total, behind, Room}

-- an entry's bytes lie in the part
pub entry_inside : (w n i : ℕ) → i < n → w * i + w ≤ w * n
entry_inside w n i h = let m : w * suc i ≤ w * n = mul-le-mul_left w h in rw mul-suc at m

-- a test for 0 counts one
pick_zero : (d : ℕ) → ◌≡◌ {A = ℕ} (pick (eqb d 0) 1 0) (if_zero d 1 0)
pick_zero zero = refl
pick_zero (suc d) = rw (ne_eqb (suc d) 0 (λ e. omega arith))

-- one more number, counted where it is 0
zero_more : (x d : ℕ) → eqb (x + if_zero d 1 0) 0 ≡ both (not (eqb d 0)) (eqb x 0)
zero_more x zero = ne_eqb (x + 1) 0 (λ e. omega arith)
zero_more x (suc d) = rw (add-zero x, ne_eqb (suc d) 0 (λ e. omega arith))

one_more : (x n d : ℕ) → x ≤ n → x + if_zero d 1 0 ≤ suc n
one_more x n zero h = omega arith
one_more x n (suc d) h = omega arith

none_more : (x d : ℕ) → x + if_zero d 1 0 ≡ 0 → (x ≡ 0) × (eqb d 0 ≡ false)
none_more x zero h = absurd (omega arith)
none_more x (suc d) h = (omega arith, ne_eqb (suc d) 0 (λ e. omega arith))

module _ (w second : ℕ) (b : List ℕ) where
  -- an earlier difference lies in the file too
  pub earlier : {r m : ℕ} → Room w second b m → r ≤ m → Room w second b r
  earlier {r} {m} z h =
      let k : w * r ≤ w * m = mul-le-mul_left w h in
      let i = z.inside in
      let n = z.rank in
      record { narrow = z.narrow; wide = z.wide; inside = omega arith; rank = omega arith }

  module _ (r : ℕ) where
    pub zeros_start : 0 ≡ zeros w second b r 0
    unfolding zeros
    zeros_start = refl

    pub plain_start : true ≡ plain w second b r 0
    unfolding plain
    plain_start = refl

    pub total_start : 0 ≡ total w second b r 0
    unfolding total
    total_start = refl

    module _ (k : ℕ) {d : ℕ} (f : d ≡ field w (second + w * (r + k + 1)) b) where
      next : r + k + 1 ≡ r + suc k
      next = omega arith

      pub zeros-next : {x y : ℕ} → x ≡ zeros w second b r k → y ≡ if_zero d 1 0 → x + y ≡ zeros w second b r (k + 1)
      unfolding zeros
      zeros-next e g = let q = rw next at f in rw (add-one k, ← e, ← q, g)

      pub zeros-counted : {x y : ℕ} → x ≡ zeros w second b r k → y ≡ x + pick (eqb d 0) 1 0 → (y ≤ x + 1) × (y ≡ zeros w second b r (k + 1))
      zeros-counted {x} e g =
          let q = rw (pick_zero d) at g in
          let m = one_more x x d (le_refl x) in
          (omega arith, q ∙ zeros-next e refl)

      pub plain-next : {x : Bool} → x ≡ plain w second b r k → both (not (eqb d 0)) x ≡ plain w second b r (k + 1)
      unfolding plain
      plain-next e = let q = rw next at f in rw (add-one k, ← e, ← q)

      pub total-next : {x : ℕ} → x ≡ total w second b r k → x + d ≡ total w second b r (k + 1)
      unfolding total
      total-next e = let q = rw next at f in rw (add-one k, ← e, ← q)

    pub zeros-most : (n : ℕ) → zeros w second b r n ≤ n
    unfolding zeros
    zeros-most zero = le_refl 0
    zeros-most (suc n) = one_more (zeros w second b r n) n (field w (second + w * (r + suc n)) b) (zeros-most n)

    -- all are behind where none is 0
    pub behind-all : (n : ℕ) → zeros w second b r n ≡ 0 → behind w second b r n ≡ total w second b r n
    unfolding zeros behind total
    behind-all zero h = refl
    behind-all (suc n) h = let z = none_more (zeros w second b r n) (field w (second + w * (r + suc n)) b) h in rw (z.1, behind-all n z.0)

    -- with the sum x behind rank k, t in all: a 0 there ends it, another difference is added
    module _ (x : ℕ) {t : ℕ} where
      pub behind-none : behind w second b r 0 + x ≡ t → x ≡ t
      unfolding behind
      behind-none e = omega arith

      pub behind-back : (k : ℕ) {d : ℕ} → 0 < k → d ≡ field w (second + w * (r + k)) b → (d ≡ 0 → ⊥) → behind w second b r k + x ≡ t
          → behind w second b r (k - 1) + (x + d) ≡ t
      unfolding behind
      behind-back zero h f n e = absurd (omega arith)
      behind-back (suc k) {d} h f n e = let q = rw (← f, ne_eqb d 0 n) at e in let m : suc k - 1 ≡ k = omega arith in rw m (omega arith)

    zeros-none : (n : ℕ) → eqb (zeros w second b r n) 0 ≡ plain w second b r n
    unfolding zeros plain
    zeros-none zero = refl
    zeros-none (suc n) = rw (zero_more (zeros w second b r n) (field w (second + w * (r + suc n)) b), zeros-none n)

    -- no jump where none is counted
    pub none-counted : (n : ℕ) {x : ℕ} → x ≡ zeros w second b r n → eqb x 0 ≡ plain w second b r n
    none-counted n e = rw e (zeros-none n)

-- where the sum behind the last 0 stops
pub behind_stop : (w second : ℕ) (b : List ℕ) (r k : ℕ) → 0 < k → field w (second + w * (r + k)) b ≡ 0 → behind w second b r k ≡ 0
unfolding behind
behind_stop w second b r zero h e = absurd (omega arith)
behind_stop w second b r (suc k) h e = rw e
