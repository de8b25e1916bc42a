-- A loop along entries of w bytes that counts falls. Assumes nothing.
use Rattle.std.proofs.Common.{◌≡◌, ℕ, zero, suc, ◌+◌, ◌-◌, ◌*◌, ◌<◌, ◌≤◌, leb, ltb, Bool, true, false, List, drop, sym, refl, ◌∙◌, add-zero, mul-zero, zero-add, mul-suc, arith, le-leb, ltb-true, ltb-false}
use Rattle.std.proofs.lemmas.Bool.{lt-leb}
use Rattle.format.specs.Tools.{pick}
use Rattle.laws.proofs.Tools.{cases}
use Rattle.format.specs.Bytes.{number, field, numbers_of}
use Rattle.laws.proofs.Numbers.{numbers_turn, numbers-end}
use Rattle.wire.specs.Wire.{entry_size}
use Rattle.wire.proofs.Laws.{field-zero, size_none}
use Rattle.rises.specs.Falls.{fallen}
use Rattle.offsets.specs.Falls.{falls_after, falls}

-- a fall counted
pub fallen_as : (x y : ℕ) → pick (leb y x) 1 0 ≡ fallen (ltb x y)
unfolding fallen
fallen_as x y = cases (ltb x y) (λ e. rw (e, lt-leb y x (ltb-true x y e))) (λ e. rw (e, le-leb y x (ltb-false x y e)))

-- a test counts at most 1
pub one-more : {m n : ℕ} (b : Bool) (i : ℕ) → m ≡ n + pick b 1 0 → n ≤ i → m ≤ i + 1
one-more true i e h = omega arith
one-more false i e h = omega arith

falls_start : (w n at : ℕ) (b : List ℕ) → 0 < n → falls_after (field w at b) (numbers_of w (n - 1) (drop (at + w) b)) ≡ falls (numbers_of w n (drop at b))
unfolding falls
falls_start w n at b h = rw (numbers_turn w n at b h)

pub falls-none : (w p : ℕ) (b : List ℕ) → 0 ≡ falls_after p (numbers_of w 0 b)
unfolding falls_after
falls-none w p b = rw (numbers-end w 0 b (omega arith))

-- the first k of them, and m behind those
pub falls_block : (w k m at : ℕ) (b : List ℕ)
    → falls_after (field w at b) (numbers_of w k (drop (at + w) b)) + falls_after (field w (at + w * k) b) (numbers_of w m (drop (at + w * k + w) b))
    ≡ falls_after (field w at b) (numbers_of w (k + m) (drop (at + w) b))
unfolding falls_after
falls_block w zero m at b = rw (mul-zero w, add-zero at, zero-add m, numbers-end w 0 (drop (at + w) b) (omega arith)) (zero-add _)
falls_block w (suc k) m at b =
    let r = falls_block w k m (at + w) b in
    let e : at + w * suc k ≡ at + w + w * k = omega (arith, mul-suc w k) in
    let x : suc k - 1 ≡ k = omega arith in
    let y : suc k + m - 1 ≡ k + m = omega arith in
    rw (e, numbers_turn w (suc k) (at + w) b (omega arith), numbers_turn w (suc k + m) (at + w) b (omega arith), x, y) (omega (arith, r))

falls-one : (p w at : ℕ) (b : List ℕ) → falls_after p (numbers_of w 1 (drop at b)) ≡ fallen (ltb p (field w at b))
unfolding falls_after
falls-one p w at b = rw (numbers_turn w 1 at b (omega arith), numbers-end w 0 (drop (at + w) b) (omega arith)) (omega arith)

-- the first i of them, and one more
pub falls_next : (w i at : ℕ) (b : List ℕ)
    → falls_after (field w at b) (numbers_of w i (drop (at + w) b)) + pick (leb (field w (at + w * i + w) b) (field w (at + w * i) b)) 1 0
    ≡ falls_after (field w at b) (numbers_of w (i + 1) (drop (at + w) b))
falls_next w i at b =
    rw (fallen_as (field w (at + w * i) b) (field w (at + w * i + w) b), ← falls-one (field w (at + w * i) b) w (at + w * i + w) b) (falls_block w i 1 at b)

-- n of them, as those behind the first: k, and m behind those
pub falls_parts : (w n k m at : ℕ) (b : List ℕ) → 0 < n → k + m ≡ n - 1
    → falls_after (field w at b) (numbers_of w k (drop (at + w) b)) + falls_after (field w (at + w * k) b) (numbers_of w m (drop (at + w * k + w) b))
    ≡ falls (numbers_of w n (drop at b))
falls_parts w n k m at b h e = rw e at (falls_block w k m at b) ∙ falls_start w n at b h

-- entries of another width than 1 and 2
falls-zeros : (n : ℕ) (b : List ℕ) → falls_after 0 (numbers_of 0 n b) ≡ n
unfolding falls_after numbers_of number fallen
falls-zeros zero b = refl
falls-zeros (suc n) b = let r = falls-zeros n b in omega arith

pub falls_other : (w n at : ℕ) (b : List ℕ) → (w ≡ 1 → ⊥) → (w ≡ 2 → ⊥) → 1 ≤ n → n - 1 ≡ falls (numbers_of (entry_size w) n (drop at b))
falls_other w n at b h k some =
    rw (← size_none w h k) (sym (falls-zeros (n - 1) (drop (at + 0) b)) ∙ rw (field-zero at b) at (falls_start 0 n at b some))
