-- The entries of w bytes of the n ranks from rank r on, searched. Assumes nothing.
use Rattle.std.proofs.Common.{◌≡◌, ℕ, suc, ◌+◌, ◌-◌, ◌*◌, ◌<◌, ◌≤◌, Bool, List, length, mul-suc, mul-add, mul-le-mul_left, arith}
use Rattle.format.specs.Tools.{pick}
use Rattle.format.specs.Bytes.{field}
use Rattle.wire.specs.Wire.{whole}
use Rattle.wire.proofs.Laws.{whole-there, whole-past}
use Rattle.parts.specs.Last.{passing}
use Rattle.parts.proofs.Last.{passing-next}

module _ (w s r n : ℕ) (b : List ℕ) where
  pub entry_there : (i x : ℕ) → i < n → s + w * r + w * n ≤ length b → x ≡ field w (s + w * r + w * i) b → x ≡ whole w (s + w * (r + i)) b
  entry_there i x h k e =
      let p : s + w * (r + i) ≡ s + w * r + w * i = omega (arith, mul-add w r i) in
      let m = mul-le-mul_left {m = suc i} {n = n} w h in
      rw (p, whole-there w (s + w * r + w * i) b (omega (arith, mul-suc w i))) e

  pub last_past : 1 ≤ n → length b < s + w * r + w * n → whole w (s + w * (r + (n - 1))) b ≡ 0
  last_past h k =
      let p : suc (n - 1) ≡ n = omega arith in
      let m = rw p at (mul-suc w (n - 1)) in
      whole-past w (s + w * (r + (n - 1))) b (omega (arith, m, mul-add w r (n - 1)))

-- the tests from 1 on, one more of them
pub passing_turn : (t : ℕ → Bool) (i m : ℕ) → 1 ≤ i → m ≡ pick (t i) 1 0 → passing t (i - 1) + m ≡ passing t (i + 1 - 1)
passing_turn t i m h e =
    let p : i - 1 + 1 ≡ i = omega arith in
    let q : i + 1 - 1 ≡ i = omega arith in
    rw q (rw p at (passing-next t (i - 1) m (rw p e)))
