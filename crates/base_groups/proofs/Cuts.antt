-- A loop along n numbers that takes those from index i to index j in a turn, at most `most`. Assumes nothing.
use Rattle.std.proofs.Common.{◌≡◌, ℕ, ◌+◌, ◌-◌, ◌<◌, ◌≤◌, min, List, length, take, drop, arith, length-drop, length-take-le}
use native.Mathlib.Nat.{min-le_left, min-le_right, le-min}

pub record Cut (most i n j : ℕ) : Type 0 where
  pub more : i < j
  pub inside : j ≤ n
  pub few : j - i ≤ most

pub cut : (most i n m : ℕ) → 1 ≤ most → i < n → m ≡ min most (n - i) → Cut most i n (i + m)
cut most i n m h g e =
    let a = min-le_left most (n - i) in
    let b = min-le_right most (n - i) in
    let c : 1 ≤ min most (n - i) = le-min h (omega arith) in
    record { more = omega arith; inside = omega arith; few = omega arith }

-- those of a list
abbrev pub part : ℕ → ℕ → List ℕ → List ℕ
part i j ls = take (j - i) (drop i ls)

pub length_part : (i j : ℕ) (ls : List ℕ) → j ≤ length ls → length (part i j ls) ≡ j - i
length_part i j ls h = length-take-le (j - i) (drop i ls) (omega (arith, length-drop i ls))
