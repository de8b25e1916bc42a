-- Kind 6's pointers (document 02, S-7): where the jumps stand among the ranks, and what a pointer counts. Assumes nothing.
use Prim.Native.Nat.{ℕ, zero, suc, ◌+◌, ◌*◌, ◌^◌, ◌≤◌, ◌<◌}
use mathlib.Core.Path.{◌≡◌, refl, sym, ap, ◌∙◌, subst}
use mathlib.Core.List.{List, [], ◌∷◌}
use native.Mathlib.Nat.{zero-add}
use native.Mathlib.Omega.{arith}
use lib.ListN.{length, get_or}
use Rattle.format.specs.Tools.{Below, listed, up_to}
use Rattle.format.specs.Stored.{stored, rank_at}
use Rattle.format.specs.Jumps.{differences, jumps_of, jumps}
use Rattle.format.specs.PointedJumps.{jump_ranks_from, pointers}
use Rattle.laws.proofs.Stored.{Rising, rising_weaken}
use Rattle.laws.proofs.Positions.{rising_le}
use Rattle.laws.proofs.Entries.{rising-next}
use Rattle.laws.proofs.Bounds.{below-rising, below_widen, length-differences, up_to-zero, length-every_nth, get_or_every_nth, below-every_nth}
use Rattle.laws.proofs.Ranks.{rank-counts}

-- the number of zeros among the first r elements of a list
unfoldable pub zeros_below : ℕ → List ℕ → ℕ
zeros_below zero ds = 0
zeros_below (suc r) [] = 0
zeros_below (suc r) (zero ∷ ds) = suc (zeros_below r ds)
zeros_below (suc r) (suc d ∷ ds) = zeros_below r ds

zeros_le : (r : ℕ) (ds : List ℕ) → zeros_below r ds ≤ r
unfolding zeros_below
zeros_le zero ds = omega arith
zeros_le (suc r) [] = omega arith
zeros_le (suc r) (zero ∷ ds) = let h = zeros_le r ds in omega arith
zeros_le (suc r) (suc d ∷ ds) = let h = zeros_le r ds in omega arith

-- ---- the jumps' ranks

-- r is the rank of jump j: its difference is 0, and j zeros stand before it
abbrev JumpRank : List ℕ → ℕ → ℕ → Type 0
JumpRank ds j r = (r < length ds) × (get_or ds r 1 ≡ 0) × (zeros_below r ds ≡ j)

rank_from_lem : (k : ℕ) (ds : List ℕ) (j : ℕ) → j < length (jump_ranks_from k ds) → (r : ℕ) × ((get_or (jump_ranks_from k ds) j 0 ≡ k + r) × JumpRank ds j r)
unfolding jump_ranks_from zeros_below
rank_from_lem k [] j h = absurd (omega arith)
rank_from_lem k (zero ∷ ds) zero h = (0, (omega arith, (omega arith, refl, refl)))
rank_from_lem k (zero ∷ ds) (suc j) h =
    let i = rank_from_lem (suc k) ds j (omega arith) in
    (suc i.0, (i.1.0 ∙ omega arith, (omega arith, i.1.1.1, ap suc i.1.1.2)))
rank_from_lem k (suc d ∷ ds) j h =
    let i = rank_from_lem (suc k) ds j h in
    (suc i.0, (i.1.0 ∙ omega arith, (omega arith, i.1.1.1, i.1.1.2)))

-- the j-th rank is that of jump j
pub jump_rank_is : (ds : List ℕ) (j : ℕ) → j < length (jump_ranks_from 0 ds)
    → (get_or (jump_ranks_from 0 ds) j 0 < length ds) × (get_or ds (get_or (jump_ranks_from 0 ds) j 0) 1 ≡ 0) × (zeros_below (get_or (jump_ranks_from 0 ds) j 0) ds ≡ j)
jump_rank_is ds j h =
    let i = rank_from_lem 0 ds j h in
    subst (λ (r : ℕ). JumpRank ds j r) (sym (i.1.0 ∙ zero-add i.0)) i.1.1

rank_to : (k : ℕ) (ds : List ℕ) (r : ℕ) → r < length ds → get_or ds r 1 ≡ 0
    → (zeros_below r ds < length (jump_ranks_from k ds)) × (get_or (jump_ranks_from k ds) (zeros_below r ds) 0 ≡ k + r)
unfolding jump_ranks_from zeros_below
rank_to k [] r h z = absurd (omega arith)
rank_to k (zero ∷ ds) zero h z = (omega arith, omega arith)
rank_to k (zero ∷ ds) (suc r) h z = let i = rank_to (suc k) ds r (omega arith) z in (omega arith, i.1 ∙ omega arith)
rank_to k (suc d ∷ ds) zero h z = absurd (omega arith)
rank_to k (suc d ∷ ds) (suc r) h z = let i = rank_to (suc k) ds r (omega arith) z in (i.0, i.1 ∙ omega arith)

-- each rank whose difference is 0 is that of a jump
pub jump_rank_of : (ds : List ℕ) (r : ℕ) → r < length ds → get_or ds r 1 ≡ 0
    → (zeros_below r ds < length (jump_ranks_from 0 ds)) × (get_or (jump_ranks_from 0 ds) (zeros_below r ds) 0 ≡ r)
jump_rank_of ds r h z = let i = rank_to 0 ds r h z in (i.0, i.1 ∙ zero-add r)

ranks_from_lem : (k B : ℕ) (ds : List ℕ) → k + length ds ≤ B → Rising k B (jump_ranks_from k ds)
unfolding jump_ranks_from
ranks_from_lem k B [] h = tt
ranks_from_lem k B (zero ∷ ds) h = (omega arith, omega arith, ranks_from_lem (suc k) B ds (omega arith))
ranks_from_lem k B (suc d ∷ ds) h = rising_weaken k (suc k) B (jump_ranks_from (suc k) ds) (omega arith) (ranks_from_lem (suc k) B ds (omega arith))

pub ranks-rising : (ds : List ℕ) → Rising 0 (length ds) (jump_ranks_from 0 ds)
ranks-rising ds = ranks_from_lem 0 (length ds) ds (omega arith)

-- they rise, and jump j has at least rank j
pub jump_ranks-rise : (ds : List ℕ) (i j : ℕ) → i < j → j < length (jump_ranks_from 0 ds) → get_or (jump_ranks_from 0 ds) i 0 < get_or (jump_ranks_from 0 ds) j 0
jump_ranks-rise ds i j h k =
    let o = ranks-rising ds in
    omega (arith, rising-next 0 (length ds) i (jump_ranks_from 0 ds) o (omega arith), rising_le 0 (length ds) (jump_ranks_from 0 ds) (suc i) j o h k)

pub jump_rank-least : (ds : List ℕ) (j : ℕ) → j < length (jump_ranks_from 0 ds) → j ≤ get_or (jump_ranks_from 0 ds) j 0
jump_rank-least ds j h = let i = (jump_rank_is ds j h).2 in omega (arith, zeros_le (get_or (jump_ranks_from 0 ds) j 0) ds)

-- ---- the jumps

length_from : (k : ℕ) (ds ls : List ℕ) → length ds ≡ length ls → length (jumps_of ds ls) ≡ length (jump_ranks_from k ds)
unfolding jumps_of jump_ranks_from
length_from k [] ls h = refl
length_from k (d ∷ ds) [] h = absurd (omega arith)
length_from k (zero ∷ ds) (l ∷ ls) h = ap suc (length_from (suc k) ds ls (omega arith))
length_from k (suc d ∷ ds) (l ∷ ls) h = length_from (suc k) ds ls (omega arith)

-- as many jumps as ranks of jumps
pub length_jump_ranks : (ds ls : List ℕ) → length ds ≡ length ls → length (jumps_of ds ls) ≡ length (jump_ranks_from 0 ds)
length_jump_ranks ds ls h = length_from 0 ds ls h

pub length-jumps : (w : ℕ) (ls : List ℕ) → length (jumps w ls) ≡ length (jump_ranks_from 0 (differences w ls))
unfolding jumps
length-jumps w ls = length_jump_ranks (differences w ls) ls (length-differences w ls)

jump_at : (ds ls : List ℕ) (r : ℕ) → length ds ≡ length ls → r < length ds → get_or ds r 1 ≡ 0 → get_or (jumps_of ds ls) (zeros_below r ds) 0 ≡ get_or ls r 0
unfolding jumps_of zeros_below
jump_at [] ls r e h z = absurd (omega arith)
jump_at (d ∷ ds) [] r e h z = absurd (omega arith)
jump_at (zero ∷ ds) (l ∷ ls) zero e h z = refl
jump_at (zero ∷ ds) (l ∷ ls) (suc r) e h z = jump_at ds ls r (omega arith) (omega arith) z
jump_at (suc d ∷ ds) (l ∷ ls) zero e h z = absurd (omega arith)
jump_at (suc d ∷ ds) (l ∷ ls) (suc r) e h z = jump_at ds ls r (omega arith) (omega arith) z

-- jump j is the position of its rank
pub jump_at-rank : (ds ls : List ℕ) (j : ℕ) → length ds ≡ length ls → j < length (jump_ranks_from 0 ds)
    → get_or (jumps_of ds ls) j 0 ≡ get_or ls (get_or (jump_ranks_from 0 ds) j 0) 0
jump_at-rank ds ls j e h =
    let i = jump_rank_is ds j h in
    ap (λ (m : ℕ). get_or (jumps_of ds ls) m 0) (sym i.2) ∙ jump_at ds ls (get_or (jump_ranks_from 0 ds) j 0) e i.0 i.1

-- ---- the pointers

pub pointer_at : (n k : ℕ) (ds : List ℕ) → 1 ≤ n → k * n < length (jump_ranks_from 0 ds) → get_or (pointers n ds) k 0 ≡ get_or (jump_ranks_from 0 ds) (k * n) 0
unfolding pointers
pointer_at n k ds p h = get_or_every_nth n k (jump_ranks_from 0 ds) p h

pub length-pointers : (n : ℕ) (ds : List ℕ) → length (pointers n ds) ≡ up_to (length (jump_ranks_from 0 ds)) n
unfolding pointers
length-pointers n ds = length-every_nth n (jump_ranks_from 0 ds)

-- each is a rank
pub below-pointers : (n : ℕ) (ds : List ℕ) → 1 ≤ n → Below (length ds) (pointers n ds)
unfolding pointers
below-pointers n [] h = unfold jump_ranks_from listed in rw (up_to-zero n h) tt
below-pointers n (d ∷ ds) h = below-every_nth n (suc (length ds)) (jump_ranks_from 0 (d ∷ ds)) (omega arith) (below-rising 0 (suc (length ds)) (jump_ranks_from 0 (d ∷ ds)) (ranks-rising (d ∷ ds)))

pub pointers_fit : (n : ℕ) (ds : List ℕ) → 1 ≤ n → length ds ≤ 16777216 → Below (256 ^ 4) (pointers n ds)
pointers_fit n ds h k = below_widen (length ds) (256 ^ 4) (pointers n ds) (omega arith) (below-pointers n ds h)

-- pointer k is the number of stored cells before the cell of jump k n
pub pointer_counts : (E : ℕ) (ws : List ℕ) (w n k : ℕ) → 1 ≤ n → k * n < length (jumps w (stored E ws))
    → get_or (pointers n (differences w (stored E ws))) k 0 ≡ rank_at E ws (get_or (jumps w (stored E ws)) (k * n) 0)
unfolding jumps
pointer_counts E ws w n k p h =
    let ls = stored E ws in
    let ds = differences w ls in
    let e : length ds ≡ length ls = length-differences w ls in
    let i : k * n < length (jump_ranks_from 0 ds) = rw (length-jumps w ls) at h in
    let r = get_or (jump_ranks_from 0 ds) (k * n) 0 in
    let b : r < length ls = rw e at (jump_rank_is ds (k * n) i).0 in
    pointer_at n k ds p i ∙ sym (rank-counts E r ws b) ∙ ap (rank_at E ws) (sym (jump_at-rank ds ls (k * n) e i))
