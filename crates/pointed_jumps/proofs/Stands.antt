-- Differences that stand in a destination, and the pointers that belong behind them: each follows from the one before. Assumes nothing.
use Prim.Native.Nat.{ℕ, zero, suc, ◌+◌, ◌-◌, ◌*◌, ◌^◌, ◌≤◌, ◌<◌}
use mathlib.Core.Path.{◌≡◌, refl, sym, ap, ◌∙◌}
use mathlib.Core.List.{List, [], ◌∷◌, ◌++◌, append_assoc}
use native.Mathlib.Nat.{mul-suc, suc-mul, zero-mul}
use native.Mathlib.Omega.{arith}
use lib.ListN.{length, get_or, set, take, drop}
use lib.Seq.{length-take-le, take-set-le, drop-set-add, drop-drop, drop_at}
use Rattle.format.specs.Tools.{Below}
use Rattle.format.specs.Bytes.{bytes_of, numbers_of}
use Rattle.format.specs.PointedJumps.{jump_ranks_from, pointers}
use Rattle.laws.proofs.Bytes.{length-bytes_of, numbers_of-bytes_of}
use Rattle.laws.proofs.Bounds.{below_get_or, index_inside}
use Rattle.laws.proofs.Pointers.{pointer_at, length-pointers, below-pointers}
use Rattle.stores.specs.Put.{put}
use Rattle.stores.proofs.Laws.{length-put, put-fits}
use Rattle.parts.proofs.Entries.{Entries}
use Rattle.differences.specs.Walk.{Room, JumpAfter}
use Rattle.pointed_jumps.proofs.Between.{rank_of, jump_found}

-- ---- numbers of w bytes where they were put, and bytes put behind them

pub numbers-back : (w : ℕ) (d : List ℕ) (at : ℕ) (xs : List ℕ) → Below (256 ^ w) xs → at + w * length xs ≤ length d
    → numbers_of w (length xs) (drop at (put d at (bytes_of w xs))) ≡ xs
numbers-back w d at xs s h =
    let bs = bytes_of w xs in
    let k : at + length bs ≤ length d = omega (arith, length-bytes_of w xs) in
    let l : length (take at d) ≡ at = length-take-le at d (omega arith) in
    let more = drop (at + length bs) d in
    rw (put-fits d at bs k, append_assoc (take at d) bs more, drop_at (take at d) (bs ++ more) at l) (numbers_of-bytes_of w xs more s)

set-behind : (w n s : ℕ) (d : List ℕ) (at b : ℕ) → s + w * n ≤ at → numbers_of w n (drop s (set d at b)) ≡ numbers_of w n (drop s d)
unfolding numbers_of
set-behind w zero s d at b h = refl
set-behind w (suc n) s d at b h =
    let m = mul-suc w n in
    let e : at ≡ s + (at - s) = omega arith in
    let t : take w (drop s (set d at b)) ≡ take w (drop s d)
    = ap (λ (i : ℕ). take w (drop s (set d i b))) e ∙ ap (take w) (drop-set-add s d (at - s) b) ∙ take-set-le w (drop s d) (at - s) b (omega arith) in
    let i = set-behind w n (s + w) d at b (omega arith) in
    rw (t, drop-drop w s (set d at b), drop-drop w s d, i)

pub numbers-put : (w n s : ℕ) (d : List ℕ) (at : ℕ) (bs : List ℕ) → s + w * n ≤ at → numbers_of w n (drop s (put d at bs)) ≡ numbers_of w n (drop s d)
unfolding put
numbers-put w n s d at [] h = refl
numbers-put w n s d at (b ∷ bs) h = numbers-put w n s (set d at b) (suc at) bs (omega arith) ∙ set-behind w n s d at b h

-- ---- differences that stand in d from `second` on, with room for the pointers behind them

pub record Stands (w n second : ℕ) (ds d : List ℕ) : Type 0 where
  pub narrow : 1 ≤ w
  pub wide : w ≤ 2
  pub step : 1 ≤ n
  pub most : length ds ≤ 16777216
  pub first : rank_of ds 0 ≡ 0
  pub entries : Entries d w second 0 ds
  pub room : second + w * length ds + 4 * length (pointers n ds) ≤ length d

module _ (w n second : ℕ) (ds : List ℕ) where
  pub stands-put : (d : List ℕ) (at : ℕ) (bs : List ℕ) → second + w * length ds ≤ at → Stands w n second ds d → Stands w n second ds (put d at bs)
  stands-put d at bs h s =
      let l = length-put d at bs in
      let z : second + w * 0 ≡ second = omega arith in
      let i = s.entries.there in
      let r = s.room in
      record {
        narrow = s.narrow;
        wide = s.wide;
        step = s.step;
        most = s.most;
        first = s.first;
        entries = record { there = omega arith; list = rw z (numbers-put w (length ds) second d at bs h ∙ rw z at s.entries.list) };
        room = omega arith;
      }

  module _ (d : List ℕ) (s : Stands w n second ds d) where
    -- a pointer is the rank of a jump
    pointer_is : (k : ℕ) → k < length (pointers n ds) → (k * n < length (jump_ranks_from 0 ds)) × (get_or (pointers n ds) k 0 ≡ rank_of ds (k * n))
    pointer_is k h =
        let l = length-pointers n ds in
        let i = index_inside n (length (jump_ranks_from 0 ds)) k s.step (omega arith) in
        (i, pointer_at n k ds s.step i)

    -- the first is rank 0
    pub pointer_first : 0 < length (pointers n ds) → get_or (pointers n ds) 0 0 ≡ 0
    pointer_first h = let p = (pointer_is 0 h).1 in rw (zero-mul n) at p ∙ s.first

    -- each is below the number of the differences
    pub pointer_below : (k : ℕ) → 0 < length ds → get_or (pointers n ds) k 0 < length ds
    pointer_below k h = below_get_or (length ds) (pointers n ds) k h (below-pointers n ds s.step)

    -- the next pointer is the n-th jump after the one before
    pub pointer_next : (k last t : ℕ) → suc k < length (pointers n ds) → length ds ≡ suc last
        → JumpAfter w second d (get_or (pointers n ds) k 0) n last t → t ≡ get_or (pointers n ds) (suc k) 0
    pointer_next k last t h e f =
        let p = pointer_is k (omega arith) in
        let q = pointer_is (suc k) h in
        let m = suc-mul k n in
        let b = pointer_below (suc k) (omega arith) in
        let q1 = q.1 in
        let g : suc k * n - k * n ≡ n = omega arith in
        let j = jump_found w second d ds s.entries (k * n) (suc k * n) last t (omega arith) q.0 (omega arith) (rw g (rw p.1 at f)) in
        j ∙ sym q.1

    -- where the last difference lies
    pub last-there : (last : ℕ) → length ds ≡ suc last → Room w second d last
    last-there last e =
        let m = mul-suc w last in
        let t : w * length ds ≡ w * suc last = ap (λ (x : ℕ). w * x) e in
        let r = s.room in
        let o = s.most in
        record { narrow = s.narrow; wide = s.wide; inside = omega arith; rank = omega arith }
