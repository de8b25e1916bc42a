-- The rank of each jump, as a walk reaches it and as a pointer names it. Assumes nothing.
use Prim.Native.Nat.{ℕ, zero, suc, ◌+◌, ◌-◌, ◌*◌, ◌≤◌, ◌<◌}
use mathlib.Core.Path.{◌≡◌, refl, sym, ap, ap₂, ◌∙◌}
use mathlib.Core.List.{List, [], ◌∷◌}
use native.Mathlib.Nat.{mul-zero}
use native.Mathlib.Omega.{arith}
use lib.ListN.{length, get_or}
use Rattle.format.specs.declared.View.{View}
use Rattle.format.specs.Bytes.{field}
use Rattle.format.specs.Jumps.{differences, jumps}
use Rattle.format.specs.PointedJumps.{jump_ranks_from, pointers}
use Rattle.laws.proofs.Bounds.{length-differences, inside_index}
use Rattle.laws.proofs.Positions.{rising_le}
use Rattle.laws.proofs.Numbers.{numbers-at}
use Rattle.laws.proofs.Pointers.{zeros_below, jump_rank_is, jump_rank_of, ranks-rising, jump_ranks-rise, jump_rank-least, length-jumps, jump_at-rank, pointer_at, length-pointers}
use Rattle.wire.specs.Wire.{whole}
use Rattle.wire.proofs.Laws.{whole-there}
use Rattle.parts.specs.Encoder.{if_zero}
use Rattle.parts.specs.Last.{Ascending}
use Rattle.parts.proofs.Entries.{Entries}
use Rattle.parts.proofs.Places.{rising_lt}
use Rattle.parts.proofs.Taking.{if_zero_lem}
use Rattle.differences.specs.declared.walk.Reached.{Reached}
use Rattle.differences.specs.Walk.{walked, origin, zeros, at_once}
use Rattle.differences.proofs.Sums.{entry_inside}
use Rattle.differences.proofs.Walked.{at_once_lem}
use Rattle.differences.proofs.JumpsAfter.{zeros_add}
use Rattle.jump_walk.proofs.Found.{walk-position}
use Rattle.pointed_jumps.proofs.Held.{Pointed}
use Rattle.pointed_jumps.proofs.Zeros.{get_or_inside, zeros_more}

-- ---- entries by their indices

module _ (b : List ℕ) (w s : ℕ) (xs : List ℕ) (e : Entries b w s 0 xs) (i : ℕ) (h : i < length xs) where
  field_at : field w (s + w * i) b ≡ get_or xs i 0
  field_at =
      let z : s + w * 0 ≡ s = omega (arith, mul-zero w) in
      sym (numbers-at w (length xs) s i b h) ∙ ap (λ (ys : List ℕ). get_or ys i 0) (rw z at e.list)

  whole-at : whole w (s + w * i) b ≡ get_or xs i 0
  whole-at =
      let t = e.there in
      let k = entry_inside w (length xs) i h in
      whole-there w (s + w * i) b (omega (arith, mul-zero w)) ∙ field_at

-- ---- the zeros up to a rank

-- those after the first, which is 0
module _ (b : List ℕ) (w s : ℕ) (ds : List ℕ) (e : Entries b w s 0 ds) (first : get_or ds 0 1 ≡ 0) where
  zeros_are : (r : ℕ) → r < length ds → zeros_below (suc r) ds ≡ suc (zeros w s b 0 r)
  unfolding zeros
  zeros_are zero h = zeros_more 0 ds h ∙ unfold zeros_below in rw first
  zeros_are (suc r) h =
      let f : get_or ds (suc r) 1 ≡ field w (s + w * (0 + suc r)) b
      = get_or_inside ds (suc r) h ∙ sym (field_at b w s ds e (suc r) h) ∙ ap (λ (k : ℕ). field w (s + w * k) b) (omega arith) in
      let i = zeros_more (suc r) ds h ∙ ap₂ (λ x d. x + if_zero d 1 0) (zeros_are r (omega arith)) f in
      omega arith

first-zero : (w : ℕ) (ls : List ℕ) → 0 < length ls → get_or (differences w ls) 0 1 ≡ 0
unfolding differences
first-zero w [] h = absurd (omega arith)
first-zero w (l ∷ ls) h = refl

-- ---- jump j

-- r is its rank
pub record JumpAt (b : List ℕ) (v : View) (ls : List ℕ) (j r : ℕ) : Type 0 where
  pub rank : r < v.words
  pub least : j ≤ r
  pub zero : field v.width (v.second + v.width * r) b ≡ 0
  pub count : zeros v.width v.second b 0 r ≡ j
  pub position : whole 4 (v.start + 4 * j) b ≡ get_or ls r 0

module _ (b : List ℕ) (v : View) (ls : List ℕ) (h : Pointed b v ls) where
  abbrev ds : List ℕ
  ds = differences v.width ls

  -- the rank of jump j
  abbrev pub rank_of : ℕ → ℕ
  rank_of j = get_or (jump_ranks_from 0 ds) j 0

  long : length ds ≡ v.words
  long = length-differences v.width ls ∙ h.held.size

  ranks : length (jump_ranks_from 0 ds) ≡ v.firsts
  ranks = sym (length-jumps v.width ls) ∙ h.held.count

  module _ (j : ℕ) (i : j < v.firsts) where
    inside : j < length (jump_ranks_from 0 ds)
    inside = rw ranks i

    pub jump_there : JumpAt b v ls j (rank_of j)
    jump_there =
        let q = jump_rank_is ds j inside in
        let n : rank_of j < v.words = rw long at q.0 in
        let z = h.held.size in
        let s = zeros_are b v.width v.second ds h.held.differences (first-zero v.width ls (omega arith)) (rank_of j) q.0 in
        let m = zeros_more (rank_of j) ds q.0 in
        let o = if_zero_lem {X = ℕ} (get_or ds (rank_of j) 1) 1 0 q.1 in
        record {
          rank = n;
          least = jump_rank-least ds j inside;
          zero = field_at b v.width v.second ds h.held.differences (rank_of j) q.0 ∙ sym (get_or_inside ds (rank_of j) q.0) ∙ q.1;
          count = let c = q.2 in omega arith;
          position = whole-at b 4 v.start (jumps v.width ls) h.held.jumps j (rw h.held.count i)
              ∙ unfold jumps in jump_at-rank ds ls j (length-differences v.width ls) inside;
        }

  ranks-rise : (i j : ℕ) → i < j → j < v.firsts → rank_of i < rank_of j
  ranks-rise i j g o = jump_ranks-rise ds i j g (rw ranks o)

  pub ranks_le : (i j : ℕ) → i ≤ j → j < v.firsts → rank_of i ≤ rank_of j
  ranks_le i j g o = rising_le 0 (length ds) (jump_ranks_from 0 ds) i j (ranks-rising ds) g (rw ranks o)

  pub first-rank : 0 < v.words → rank_of 0 ≡ 0
  first-rank n =
      let z = h.held.size in
      unfold zeros_below in (jump_rank_of ds 0 (rw long n) (first-zero v.width ls (omega arith))).1

  -- parts with words have a jump
  pub some_jump : 0 < v.words → 0 < v.firsts
  some_jump n =
      let z = h.held.size in
      let o : 0 < length (jump_ranks_from 0 ds) = unfold zeros_below in (jump_rank_of ds 0 (rw long n) (first-zero v.width ls (omega arith))).0 in
      rw ranks at o

  pub jumps_ascend : Ascending (λ i. whole 4 (v.start + 4 * i) b) v.firsts
  jumps_ascend i j g o =
      let x = jump_there i (omega arith) in
      let y = jump_there j o in
      let z = h.held.size in
      rw (x.position, y.position) (rising_lt 0 v.cells ls (rank_of i) (rank_of j) h.held.rising (ranks-rise i j g o) (rw z y.rank))

  -- pointer k names the rank of jump k n
  pub pointer_is : (k : ℕ) → k * v.step < v.firsts → whole 4 (v.second + v.width * v.words + 4 * k) b ≡ rank_of (k * v.step)
  pointer_is k i =
      let o : k * v.step < length (jump_ranks_from 0 ds) = rw ranks i in
      let p : k < length (pointers v.step ds) = rw (length-pointers v.step ds) (inside_index v.step _ k h.step o) in
      whole-at b 4 _ (pointers v.step ds) h.pointers k p ∙ pointer_at v.step k ds h.step o

  -- what a walk from rank 0 reaches there
  pub jump_reached : (j r : ℕ) → JumpAt b v ls j r
      → ◌≡◌ {A = Reached} (record { position = whole 4 (v.start + 4 * j) b; taken = j + 1 })
      (walked v.width v.start v.second b 0 r (origin v.start b))
  jump_reached j r a =
      let t = walked v.width v.start v.second b 0 r (origin v.start b) in
      let p : t.position ≡ get_or ls r 0 = walk-position b v v.width ls h.held refl r t a.rank refl in
      let n : t.taken ≡ 1 + zeros v.width v.second b 0 r
      = ap (λ (x : Reached). x.taken) (at_once_lem v.width v.start v.second b 0 r (origin v.start b)) ∙ unfold at_once in refl in
      let c = a.count in
      let m : j + 1 ≡ t.taken = omega arith in
      ap₂ (λ x y. record { position = x; taken = y }) (a.position ∙ sym p) m

-- the zeros between two jumps
pub zeros_between : (b : List ℕ) (v : View) (ls : List ℕ) (j r : ℕ) → JumpAt b v ls j r → (i q : ℕ) → JumpAt b v ls i q → q ≤ r
    → zeros v.width v.second b q (r - q) ≡ j - i
zeros_between b v ls j r a i q f g =
    let e : q + (r - q) ≡ r = omega arith in
    let y : 0 + q ≡ q = omega arith in
    let z = rw (e, y) at (zeros_add v.width v.second b 0 q (r - q)) in
    let c = a.count in
    let d = f.count in
    omega arith
