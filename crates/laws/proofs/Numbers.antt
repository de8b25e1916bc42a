-- Numbers of w bytes in a row, by their offsets. Assumes nothing.
use Prim.Native.Nat.{ℕ, zero, suc, ◌+◌, ◌-◌, ◌*◌, ◌≤◌, ◌<◌}
use mathlib.Core.Path.{◌≡◌, refl}
use mathlib.Core.List.{List, [], ◌∷◌}
use native.Mathlib.Nat.{mul-zero, mul-suc, add-zero}
use native.Mathlib.Omega.{arith}
use lib.ListN.{get_or, drop}
use lib.Seq.{drop-drop}
use Rattle.format.specs.Bytes.{field, numbers_of}

-- the first, and the rest
pub numbers_turn : (w n at : ℕ) (b : List ℕ) → 0 < n → numbers_of w n (drop at b) ≡ field w at b ∷ numbers_of w (n - 1) (drop (at + w) b)
unfolding numbers_of field
numbers_turn w zero at b h = absurd (omega arith)
numbers_turn w (suc n) at b h = let e : suc n - 1 ≡ n = omega arith in rw (e, drop-drop w at b)

pub numbers-end : (w n : ℕ) (b : List ℕ) → n ≤ 0 → numbers_of w n b ≡ []
unfolding numbers_of
numbers-end w zero b h = refl
numbers-end w (suc n) b h = absurd (omega arith)

-- the number at an index
pub numbers-at : (w n at i : ℕ) (b : List ℕ) → i < n → get_or (numbers_of w n (drop at b)) i 0 ≡ field w (at + w * i) b
unfolding numbers_of
numbers-at w zero at i b h = absurd (omega arith)
numbers-at w (suc n) at zero b h = let e : at + w * 0 ≡ at = rw (mul-zero w, add-zero at) in rw e (unfold field in refl)
numbers-at w (suc n) at (suc i) b h =
    let e : at + w * suc i ≡ at + w + w * i = rw mul-suc (omega arith) in
    rw (e, drop-drop w at b) (numbers-at w n (at + w) i b (omega arith))
