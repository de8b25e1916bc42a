-- A division by b as a multiplication by the share of b: 2^32 over b, rounded up. Assumes nothing.
use Prim.Native.Nat.{ℕ, ◌+◌, ◌-◌, ◌*◌, ◌/◌, ◌≤◌, ◌<◌}
use mathlib.Core.Path.{◌≡◌}
use native.Mathlib.Nat.{mul_comm, mul-add, add-mul, one-mul, mul_assoc, mul-le-mul, mul-le-mul_left, mul-le-mul_right, div-mul-le_self, lt-div-mul-add, div-eq_of_lt-le, add-div_right}
use native.Mathlib.Omega.{arith}
use Rattle.format.specs.Tools.{up_to}
use Rattle.laws.proofs.Bounds.{up_to_half}

-- as the code finds it in 32 bits
pub share_by_one : (b : ℕ) → 1 ≤ b → up_to 4294967296 b ≡ 4294967295 / b + 1
share_by_one b h = let e : 4294967296 + (b - 1) ≡ 4294967295 + b = omega arith in rw e (add-div_right 4294967295 h)

-- b * m is 2^32 and less than b more: for a small n, n * m is at least n / b times 2^32, and below the next multiple
module _ (n b m : ℕ) (h : 1 ≤ b) (k : b ≤ 64) (s : n < 33554432) (low : 4294967296 ≤ b * m) (high : b * m < 4294967296 + b) where
  at_least : n / b * 4294967296 ≤ n * m
  at_least =
      let u = mul-le-mul_left (n / b) low in
      let v = mul-le-mul_right m (div-mul-le_self n b) in
      omega (arith, mul_assoc (n / b) b m)

  below_next : n * m < (n / b + 1) * 4294967296
  below_next =
      let q = n / b + 1 in
      let e : q * b ≡ n / b * b + b = rw (add-mul (n / b) 1 b, one-mul b) in
      let next : n + 1 ≤ q * b = omega (arith, lt-div-mul-add {a = n} h) in
      let near : q * b ≤ n + b = omega (arith, div-mul-le_self n b) in
      let u : n * m + m ≤ q * b * m = rw (add-mul n 1 m, one-mul m) at (mul-le-mul_right m next) in
      let most : b * m ≤ 4294967296 + b = omega arith in
      let v : q * (b * m) ≤ q * 4294967296 + q * b = rw mul-add at (mul-le-mul_left q most) in
      omega (arith, mul_assoc q b m, mul-le-mul_right m k)

pub by_share : (n b : ℕ) → 2 ≤ b → b ≤ 64 → n < 33554432 → n * up_to 4294967296 b / 4294967296 ≡ n / b
by_share n b h k s =
    let m = up_to 4294967296 b in
    let e = mul_comm b m in
    let some : 1 ≤ b = omega arith in
    let low : 4294967296 ≤ b * m = omega (arith, lt-div-mul-add {a = 4294967296 + (b - 1)} some) in
    let high : b * m < 4294967296 + b = omega (arith, div-mul-le_self (4294967296 + (b - 1)) b) in
    div-eq_of_lt-le 4294967296 (at_least n b m some k s low high) (below_next n b m some k s low high)

-- the product fits 64 bits
pub share_fits : (n b : ℕ) → 2 ≤ b → n < 33554432 → n * up_to 4294967296 b ≤ 33554432 * 2147483648
share_fits n b h s =
    let m : up_to 4294967296 b ≤ 2147483648 = omega (arith, up_to_half 4294967296 b h) in
    let k : n ≤ 33554432 = omega arith in
    mul-le-mul k m
