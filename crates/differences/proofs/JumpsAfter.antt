-- The jumps after a rank, and a search for one of them over some ranks at once. Assumes nothing.
use Prim.Native.Nat.{ℕ, zero, suc, ◌+◌, ◌-◌, ◌*◌, ◌≤◌, ◌<◌}
use mathlib.Core.Path.{◌≡◌}
use mathlib.Core.List.{List}
use native.Mathlib.Nat.{add-zero, add-suc, add_assoc, le_refl}
use native.Mathlib.Omega.{arith}
use lib.Dec.{leb}
use borrow.Author.Tests.{leb-true, leb-false}
use Rattle.format.specs.Bytes.{field}
use Rattle.parts.specs.Encoder.{if_zero}
use Rattle.laws.proofs.Tools.{cases}
use Rattle.parts.proofs.Taking.{if_zero_lem}
use Rattle.differences.specs.Walk.{zeros, JumpAfter}
use Rattle.differences.proofs.Sums.{zeros_start, zeros-next}

-- ---- counted piece after piece

module _ (w second : ℕ) (b : List ℕ) (r : ℕ) where
  pub zeros_add : (n m : ℕ) → zeros w second b r (n + m) ≡ zeros w second b r n + zeros w second b (r + n) m
  unfolding zeros
  zeros_add n zero = rw (add-zero n, add-zero)
  zeros_add n (suc m) = rw (add-suc n m, zeros_add n m, ← add-suc n m, add_assoc, add_assoc)

  zeros-rise : (n m : ℕ) → n ≤ m → zeros w second b r n ≤ zeros w second b r m
  zeros-rise n m h =
      let e : n + (m - n) ≡ m = omega arith in
      let z = rw e at (zeros_add n (m - n)) in
      omega arith

  pub zeros-one : {d z : ℕ} → d ≡ field w (second + w * (r + 1)) b → z ≡ if_zero d 1 0 → z ≡ zeros w second b r 1
  zeros-one f e =
      let q : r + 0 + 1 ≡ r + 1 = omega arith in
      let n = zeros-next w second b r 0 (rw q f) (zeros_start w second b r) e in
      omega arith

  -- the last of them is a jump
  zeros_jump : (n : ℕ) → field w (second + w * (r + suc n)) b ≡ 0 → 1 ≤ zeros w second b r (suc n)
  unfolding zeros
  zeros_jump n h = let z = if_zero_lem {X = ℕ} (field w (second + w * (r + suc n)) b) 1 0 h in omega arith

-- ---- the jump that is searched for

-- rank u is the m-th jump after rank r; rank r itself where m is 0
pub record Jump (w second : ℕ) (b : List ℕ) (last r m u : ℕ) : Type 0 where
  pub least : r ≤ u
  pub most : u ≤ last
  pub count : zeros w second b r (u - r) ≡ m
  pub jump : r < u → field w (second + w * u) b ≡ 0

-- the search has come from rank r to rank `at`: the m-th jump after r is the one after `at` by the number that is left
pub record Onward (w second : ℕ) (b : List ℕ) (last r m at left : ℕ) : Type 0 where
  pub least : r ≤ at
  pub most : at ≤ last
  pub same : (u : ℕ) → Jump w second b last r m u → Jump w second b last at left u

-- it is past ranks with fewer jumps
past : {w second last r m : ℕ} {b : List ℕ} (n u : ℕ) → Jump w second b last r m u → zeros w second b r n < m → r + n < u
past {w} {second} {r = r} {b = b} n u j h =
    cases (leb u (r + n))
    (λ e.
    let t = leb-true u (r + n) e in
    let z = zeros-rise w second b r (u - r) n (omega arith) in
    let k = j.count in
    absurd (omega arith))
    (λ e. leb-false u (r + n) e)

-- no jump is left
there : {w second last r m : ℕ} {b : List ℕ} (u : ℕ) → Jump w second b last r m u → m ≤ 0 → r ≡ u
there {w} {second} {r = r} {b = b} u j h =
    let l = j.least in
    cases (leb u r)
    (λ e. let t = leb-true u r e in omega arith)
    (λ e.
    let t = leb-false u r e in
    let p : u - r ≡ suc (u - r - 1) = omega arith in
    let q : r + suc (u - r - 1) ≡ u = omega arith in
    let k = j.count in
    let z = rw (← p) at (zeros_jump w second b r (u - r - 1) (rw q (j.jump t))) in
    absurd (omega arith))

module _ {w second : ℕ} {b : List ℕ} {last r m : ℕ} where
  pub onward_start : r ≤ last → Onward w second b last r m r m
  onward_start h = record { least = le_refl r; most = h; same = λ u j. j }

  pub found_here : m ≤ 0 → r ≤ last → JumpAfter w second b r m last r
  found_here h k =
      record { least = le_refl r; most = k; found = λ u a c e d. there u (record { least = a; most = c; count = e; jump = d }) h }

  -- no rank is left
  pub found-last : r ≡ last → JumpAfter w second b r m last r
  found-last h = record { least = le_refl r; most = omega arith; found = λ u a c e d. omega arith }

module _ {w second : ℕ} {b : List ℕ} {last r m at left : ℕ} (o : Onward w second b last r m at left) where
  -- over n ranks, where all but the last of them have fewer jumps than are left
  over : (n k : ℕ) {z : ℕ} → z ≡ zeros w second b at n → zeros w second b at k < left → n ≤ k + 1 → at + n ≤ last
      → Onward w second b last r m (at + n) (left - z)
  over n k {z} e f g h = let l = o.least in record { least = omega arith; most = h; same = λ u i. further u (o.same u i) }
    where
      further : (u : ℕ) → Jump w second b last at left u → Jump w second b last (at + n) (left - z) u
      further u j =
          let t = past k u j f in
          let p : n + (u - (at + n)) ≡ u - at = omega arith in
          let q = rw p at (zeros_add w second b at n (u - (at + n))) in
          let c = j.count in
          record { least = omega arith; most = j.most; count = omega arith; jump = λ x. j.jump (omega arith) }

  pub onward-rank : 0 < left → at < last → {d z : ℕ} → d ≡ field w (second + w * (at + 1)) b → z ≡ if_zero d 1 0
      → Onward w second b last r m (at + 1) (left - z)
  onward-rank h k f e = let s = zeros_start w second b at in over 1 0 (zeros-one w second b at f e) (omega arith) (omega arith) (omega arith)

  pub onward_group : (n : ℕ) {z : ℕ} → z ≡ zeros w second b at n → z < left → at + n ≤ last → Onward w second b last r m (at + n) (left - z)
  onward_group n e h k = over n n e (omega arith) (omega arith) k

  -- found from there on
  pub found_later : {t : ℕ} → JumpAfter w second b at left last t → JumpAfter w second b r m last t
  found_later f =
      let l = o.least in
      let n = f.least in
      record {
        least = omega arith;
        most = f.most;
        found = λ u g h e d.
            let j = o.same u (record { least = g; most = h; count = e; jump = d }) in
            f.found u j.least j.most j.count j.jump;
      }
