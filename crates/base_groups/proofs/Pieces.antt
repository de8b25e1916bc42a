-- Numbers in a row: a front part, and what follows it. Assumes nothing.
use Rattle.std.proofs.Common.{◌≡◌, ℕ, zero, suc, ◌+◌, ◌-◌, ◌*◌, ◌≤◌, List, ◌∷◌, take, drop, refl, ap, add-zero, mul-zero, mul-suc, arith, drop-drop}
use native.Mathlib.Nat.{sub-zero, suc-sub-suc}
use Rattle.format.specs.Bytes.{number, numbers_of}

pub take-numbers : (w n m : ℕ) (b : List ℕ) → m ≤ n → take m (numbers_of w n b) ≡ numbers_of w m b
unfolding numbers_of
take-numbers w n zero b h = refl
take-numbers w zero (suc m) b h = absurd (omega arith)
take-numbers w (suc n) (suc m) b h = ap (λ (x : List ℕ). number (take w b) ∷ x) (take-numbers w n m (drop w b) (omega arith))

pub drop-numbers : (w n m at : ℕ) (b : List ℕ) → m ≤ n → drop m (numbers_of w n (drop at b)) ≡ numbers_of w (n - m) (drop (at + w * m) b)
unfolding numbers_of
drop-numbers w n zero at b h = let e : at + w * 0 ≡ at = rw (mul-zero w, add-zero at) in rw (e, sub-zero n)
drop-numbers w zero (suc m) at b h = absurd (omega arith)
drop-numbers w (suc n) (suc m) at b h =
    let e : at + w * suc m ≡ at + w + w * m = rw mul-suc (omega arith) in
    rw (e, suc-sub-suc n m, drop-drop w at b) (drop-numbers w n m (at + w) b (omega arith))
