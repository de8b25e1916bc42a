-- The steps of a search, one by one and all at once. Assumes nothing.
use Prim.Native.Nat.{ℕ, zero, suc, ◌+◌, ◌-◌, ◌*◌, ◌^◌, ◌≤◌, ◌<◌}
use mathlib.Core.Path.{◌≡◌, refl, sym, ap, ◌∙◌}
use mathlib.Core.List.{List}
use native.Mathlib.Nat.{add-zero, add-suc, add_assoc}
use native.Mathlib.Numerals.{add-one}
use native.Mathlib.Omega.{arith}
use lib.ListN.{length}
use lib.Dec.{eqb}
use borrow.Author.Tests.{ne_eqb, eqb-true, eqb-false}
use Rattle.format.specs.Bytes.{field}
use Rattle.wire.specs.Wire.{whole}
use Rattle.laws.proofs.Tools.{cases}
use Rattle.parts.proofs.Taking.{if_zero_lem, if_more}
use Rattle.differences.specs.declared.walk.Reached.{Reached}
use Rattle.differences.specs.Walk.{step_by, stepped, walked, zeros, total, behind, at_once, Room}
use Rattle.differences.proofs.Sums.{entry_inside, behind-all}

-- ranks whose differences all lie in the file
pub room : {w second n r : ℕ} (b : List ℕ) → 1 ≤ w → w ≤ 2 → second + w * n ≤ length b → n < 2 ^ 32 → r < n → Room w second b r
room {w} {second} {n} {r} b narrow wide h m k =
    let i = entry_inside w n r k in
    record { narrow = narrow; wide = wide; inside = omega arith; rank = omega arith }

-- ---- from rank to rank

module _ (w start second : ℕ) (b : List ℕ) where
  module _ (r : ℕ) (s : Reached) {d : ℕ} (e : d ≡ field w (second + w * r) b) where
    pub by_difference : (d ≡ 0 → ⊥) → ◌≡◌ {A = Reached} (record { position = s.position + d; taken = s.taken }) (stepped w start second b r s)
    unfolding stepped step_by
    by_difference n = rw (← e, ne_eqb d 0 n)

    pub by_jump : d ≡ 0 → {j : ℕ} → j ≡ whole 4 (start + 4 * s.taken) b
        → ◌≡◌ {A = Reached} (record { position = j; taken = s.taken + 1 }) (stepped w start second b r s)
    unfolding stepped step_by
    by_jump z f = rw (← e, ← f, z)

  module _ (r : ℕ) where
    pub walked_start : (s : Reached) → s ≡ walked w start second b r 0 s
    unfolding walked
    walked_start s = refl

    pub walked_next : (k : ℕ) (s : Reached) {t u : Reached} → t ≡ walked w start second b r k s → u ≡ stepped w start second b (r + (k + 1)) t
        → u ≡ walked w start second b r (k + 1) s
    unfolding walked
    walked_next k s e f = rw (f, e, add-one k)

    -- rank by rank is all at once
    pub at_once_lem : (n : ℕ) (s : Reached) → walked w start second b r n s ≡ at_once w start second b r n s
    unfolding walked stepped step_by zeros behind at_once
    at_once_lem zero s = rw (add-zero s.position, add-zero s.taken)
    at_once_lem (suc n) s =
        let d = field w (second + w * (r + suc n)) b in
        let z = zeros w second b r n in
        cases (eqb d 0)
        (λ e.
        let f : s.taken + (z + 1) - 1 ≡ s.taken + z = omega arith in
        rw (at_once_lem n s, e, if_zero_lem {X = ℕ} d 1 0 (eqb-true d 0 e), ne_eqb (z + 1) 0 (λ x. omega arith), f, add-zero, add_assoc))
        (λ e. rw (at_once_lem n s, e, if_more {X = ℕ} d 1 0 (eqb-false d 0 e), add-zero z, add_assoc))

    module _ (n : ℕ) (s : Reached) {z : ℕ} (e : z ≡ zeros w second b r n) where
      -- without a jump
      pub by_behind : z ≡ 0 → {x : ℕ} → x ≡ behind w second b r n
          → ◌≡◌ {A = Reached} (record { position = s.position + x; taken = s.taken }) (walked w start second b r n s)
      unfolding at_once
      by_behind h f =
          let o : zeros w second b r n ≡ 0 = sym e ∙ h in
          rw (at_once_lem n s, o, f, add-zero s.taken)

      pub by_sum : z ≡ 0 → {x : ℕ} → x ≡ total w second b r n
          → ◌≡◌ {A = Reached} (record { position = s.position + x; taken = s.taken }) (walked w start second b r n s)
      by_sum h f = by_behind h (f ∙ sym (behind-all w second b r n (sym e ∙ h)))

      -- from the last jump on
      pub by_last_jump : (z ≡ 0 → ⊥) → {x : ℕ} → x ≡ behind w second b r n → {t : Reached}
          → t ≡ record { position = whole 4 (start + 4 * (s.taken + z - 1)) b + x; taken = s.taken + z } → t ≡ walked w start second b r n s
      unfolding at_once
      by_last_jump h g f = f ∙ rw (at_once_lem n s, g, ← e, ne_eqb z 0 h)

  -- a walk from where another stopped
  walked_on : (q r m : ℕ) (s : Reached) → walked w start second b (q + r) m (walked w start second b q r s) ≡ walked w start second b q (r + m) s
  unfolding walked
  walked_on q r zero s = rw (add-zero r)
  walked_on q r (suc m) s = rw (walked_on q r m s, add-suc r m) (ap (λ (k : ℕ). stepped w start second b k (walked w start second b q (r + m) s)) (omega arith))

  pub walked_further : (q r m : ℕ) (s : Reached) {t u : Reached} → q ≤ r → t ≡ walked w start second b q (r - q) s → u ≡ walked w start second b r m t
      → u ≡ walked w start second b q (r + m - q) s
  walked_further q r m s h e f =
      let k : q + (r - q) ≡ r = omega arith in
      let n : r - q + m ≡ r + m - q = omega arith in
      f ∙ rw e (rw (k, n) at (walked_on q (r - q) m s))
