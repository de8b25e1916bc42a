-- One group, as the code goes through it. Assumes nothing.
use Rattle.std.proofs.Common.{◌≡◌, ℕ, zero, suc, ◌+◌, ◌-◌, ◌*◌, ◌<◌, ◌≤◌, false, eqb, ltb, List, drop, sym, add-zero, mul-zero, mul-suc, arith, le-ltb, eq-eqb, ne_eqb}
use Rattle.format.specs.Bytes.{field, numbers_of}
use Rattle.laws.proofs.Tools.{both_false}
use Rattle.laws.proofs.Numbers.{numbers_turn, numbers-end}
use Rattle.offsets.specs.Ends.{last_after, group_ends}

-- the last of n + 1 entries
last_entry : (w n at : ℕ) (b : List ℕ) → last_after (field w at b) (numbers_of w n (drop (at + w) b)) ≡ field w (at + w * n) b
unfolding last_after
last_entry w zero at b = let e : at + w * 0 ≡ at = rw (mul-zero w, add-zero at) in rw (e, numbers-end w 0 (drop (at + w) b) (omega arith))
last_entry w (suc n) at b =
    let e : at + w * suc n ≡ at + w + w * n = rw mul-suc (omega arith) in
    let z : suc n - 1 ≡ n = omega arith in
    rw (e, numbers_turn w (suc n) (at + w) b (omega arith), z) (last_entry w n (at + w) b)

-- room for the first of n entries, and for the others after it
pub room : (w n place size : ℕ) → 0 < n → place + w * n ≤ size → (place + w ≤ size) × (place + w + w * (n - 1) ≤ size)
room w zero place size h k = absurd (omega arith)
room w (suc n) place size h k = let e : suc n - 1 ≡ n = omega arith in let m = mul-suc w n in rw e (omega arith, omega arith)

module _ (w n at base next : ℕ) (b : List ℕ) (some : 1 ≤ n) where
  pub ends-past : next ≤ base → false ≡ group_ends base next (numbers_of w n (drop at b))
  unfolding group_ends
  ends-past h =
      let e : next - base ≡ 0 = omega arith in
      sym (rw (numbers_turn w n at b some, e, le-ltb (last_after (field w at b) (numbers_of w (n - 1) (drop (at + w) b))) 0 (omega arith)) (both_false (eqb (field w at b) 0)))

  pub ends-first : (field w at b ≡ 0 → ⊥) → false ≡ group_ends base next (numbers_of w n (drop at b))
  unfolding group_ends
  ends-first h = sym (rw (numbers_turn w n at b some, ne_eqb (field w at b) 0 h))

  pub ends_last : field w at b ≡ 0 → ltb (field w (at + w * (n - 1)) b) (next - base) ≡ group_ends base next (numbers_of w n (drop at b))
  unfolding group_ends
  ends_last h = sym (rw (numbers_turn w n at b some, last_entry w (n - 1) at b, eq-eqb (field w at b) 0 h))
