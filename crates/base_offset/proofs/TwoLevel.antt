-- A search in two levels: the last base that is at most p, then the last such offset of its group, find the last such position. Assumes nothing.
use Prim.Native.Nat.{ℕ, suc, ◌+◌, ◌-◌, ◌*◌, ◌≤◌, ◌<◌, min}
use mathlib.Core.Path.{◌≡◌, sym, ap, ◌∙◌}
use mathlib.Core.Logic.{⊎_elim}
use native.Mathlib.Nat.{suc-mul, zero-mul, mul-lt-mul_of_pos_right, eq-or-lt_of_le, min-le_right, le-min}
use native.Mathlib.Omega.{arith}
use lib.Dec.{ltb, eqb}
use borrow.Author.Tests.{ltb-true, ltb-false, eqb-true, eqb-false}
use Rattle.laws.proofs.Tools.{cases}
use Rattle.parts.specs.Last.{Ascending, LastAtMost}

-- N rising numbers, of which every l-th is one of m bases
pub record Bases (L : ℕ → ℕ) (N l : ℕ) (base : ℕ → ℕ) (m : ℕ) : Type 0 where
  pub rise : Ascending L N
  pub step : 1 ≤ l
  pub inside : (j : ℕ) → j < m → j * l < N
  pub index : (j : ℕ) → j * l < N → j < m
  pub value : (j : ℕ) → j < m → base j ≡ L (j * l)

module _ (L : ℕ → ℕ) (N l : ℕ) (base : ℕ → ℕ) (m : ℕ) (s : Bases L N l base m) where
  bases-rise : Ascending base m
  bases-rise i j h k =
      let z = s.step in
      rw (s.value i (omega arith), s.value j k) (s.rise (i * l) (j * l) (mul-lt-mul_of_pos_right h z) (s.inside j k))

  not-above : (i j : ℕ) → i ≤ j → j < N → L i ≤ L j
  not-above i j h k = ⊎_elim (λ q. rw q (omega arith)) (λ q. let z = s.rise i j q k in omega arith) (eq-or-lt_of_le {n = i} {m = j} h)

  module _ (p j : ℕ) (some : 0 < m) (last : LastAtMost base m p j) where
    -- below the first base
    pub below-first : p < base j → p < L 0
    below-first h =
        let z : j ≡ 0 = cases (eqb j 0) (λ t. eqb-true j 0 t) (λ t. let n = eqb-false j 0 t in let y = last.low bases-rise (omega arith) in absurd (omega arith)) in
        let e : base 0 ≡ L 0 = s.value 0 some ∙ ap L (zero-mul l) in
        let g : p < base 0 = rw z at h in
        omega arith

    module _ (n i : ℕ) (offset : ℕ → ℕ) (least : base j ≤ p) (lesser : n ≡ min l (N - j * l)) (full : 0 < n)
        (sum : (x : ℕ) → x < n → base j + offset x ≡ L (j * l + x)) (found : LastAtMost offset n (p - base j) i) where
      offsets-rise : Ascending offset n
      offsets-rise x y h g =
          let a = sum x (omega arith) in
          let c = sum y g in
          let r = min-le_right l (N - j * l) in
          let q = s.rise (j * l + x) (j * l + y) (omega arith) (omega arith) in
          omega arith

      pub at_most : L (j * l + i) ≤ p
      at_most =
          let a = sum i (found.within full) in
          cases (eqb i 0)
          (λ t.
          let z : L (j * l + i) ≡ base j = ap (λ (x : ℕ). L x) (rw (eqb-true i 0 t) (omega arith)) ∙ sym (s.value j (last.within some)) in
          omega arith)
          (λ t. let z = eqb-false i 0 t in let y = found.low offsets-rise (omega arith) in omega arith)

      pub above : (k : ℕ) → j * l + i < k → k < N → p < L k
      above k h g =
          cases (ltb k (j * l + l))
          (λ t.
          let z = ltb-true k (j * l + l) t in
          let m : suc (k - j * l) ≤ min l (N - j * l) = le-min (omega arith) (omega arith) in
          let y : k - j * l < n = omega arith in
          let q = found.high offsets-rise (k - j * l) (omega arith) y in
          let e : j * l + (k - j * l) ≡ k = omega arith in
          let a : base j + offset (k - j * l) ≡ L k = sum (k - j * l) y ∙ ap L e in
          omega arith)
          (λ t.
          let z = ltb-false k (j * l + l) t in
          let e : suc j * l ≡ j * l + l = suc-mul j l in
          let x : suc j < m = s.index (suc j) (omega arith) in
          let q = last.high bases-rise (suc j) (omega arith) x in
          let c = s.value (suc j) x in
          let a = not-above (suc j * l) k (omega arith) g in
          omega arith)
