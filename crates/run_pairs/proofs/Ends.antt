-- The pairs of the runs that end among the positions of a batch, by the list of the ends. Assumes nothing.
use Prim.Native.Nat.{ℕ, zero, suc, ◌+◌, ◌-◌, ◌*◌, ◌≤◌, ◌<◌}
use mathlib.Core.Path.{◌≡◌, refl, sym, ap, ap₂, ◌∙◌}
use mathlib.Core.Bool.{not}
use mathlib.Core.List.{List, [], ◌∷◌, ◌++◌}
use native.Mathlib.Nat.{zero-add}
use native.Mathlib.Numerals.{add-one}
use native.Mathlib.Omega.{arith}
use lib.ListN.{length, get_or, drop, length-append, drop_of_length-le}
use lib.Seq.{drop-cons}
use lib.Dec.{leb}
use Rattle.format.specs.Tools.{Below}
use Rattle.laws.proofs.Tools.{cases}
use Rattle.laws.proofs.Stored.{Rising}
use Rattle.stores.specs.Put.{put, pair}
use Rattle.stores.proofs.Laws.{put_nil, put-append, length-pair}
use Rattle.parts.specs.declared.Encoder.{Encoder}
use Rattle.parts.specs.Encoder.{taken_by}
use Rattle.parts.specs.Ready.{put_by}
use Rattle.parts.specs.Batch.{added_first_by, added_second_by, put_all_by, Along, RoomAll}
use Rattle.rises.specs.Far.{ends_after, ends_of}
use Rattle.parts.proofs.Taken.{room_tail, put-all_cons}
use Rattle.run_pairs.specs.Coding.{runs_coder, end_pairs}
use Rattle.run_pairs.proofs.Adds.{run-pair, first-pair, first-none}
use Rattle.run_pairs.proofs.Further.{ends-far}

-- a position is not below its index
pub rising-far : (a B : ℕ) (ls : List ℕ) (i : ℕ) → Rising a B ls → i < length ls → a + i ≤ get_or ls i 0
rising-far a B [] i r h = absurd (omega arith)
rising-far a B (l ∷ ls) zero r h = let o = r.0 in omega arith
rising-far a B (l ∷ ls) (suc i) r h = let o = r.0 in let n = rising-far (suc l) B ls i r.2 (omega arith) in omega arith

-- ---- what the positions after the first add

ends-below : (n i p : ℕ) (ls : List ℕ) → i + length ls < n → Below n (ends_after i p ls)
unfolding ends_after
ends-below n i p [] h = tt
ends-below n i p (q ∷ ls) h =
    let b = ends-below n (i + 1) q ls (omega arith) in
    cases (leb (q - p) 1) (λ t. rw t b) (λ t. rw t (omega arith, b))

pub below-ends : (ls : List ℕ) → Below (length ls) (ends_of ls)
unfolding ends_of
below-ends [] = tt
below-ends (p ∷ ls) = ends-below (suc (length ls)) 0 p ls (omega arith)

-- the encoder's last position has the index i of ls, the first of which has the rank r
added-ends : (full : List ℕ) (B r i : ℕ) (e : Encoder) (ls : List ℕ) → e.rank ≡ suc (r + i) → ((k : ℕ) → get_or full (i + k) 0 ≡ get_or (e.last ∷ ls) k 0)
    → Rising (suc e.last) B ls → added_first_by runs_coder e ls ≡ end_pairs r full (ends_after i e.last ls)
unfolding added_first_by end_pairs ends_after taken_by
added-ends full B r i e [] n at o = refl
added-ends full B r i e (q ∷ ls) n at o =
    let f = ends-far e q (omega arith) o.0 in
    let later : added_first_by runs_coder (taken_by runs_coder e q) ls ≡ end_pairs r full (ends_after (i + 1) q ls)
    = added-ends full B r (i + 1) (taken_by runs_coder e q) ls (omega arith) (λ k. let z : i + 1 + k ≡ i + suc k = omega arith in rw z (at (suc k))) o.2 in
    let here : get_or full i 0 ≡ e.last = let z : i + 0 ≡ i = omega arith in rw z at (at 0) in
    cases (leb (q - e.last) 1)
    (λ t. ap₂ (λ (x y : List ℕ). x ++ y) (first-none e q (f ∙ ap not t)) later ∙ rw t)
    (λ t. ap₂ (λ (x y : List ℕ). x ++ y) (first-pair e q (f ∙ ap not t) ∙ run-pair e (r + i) n) later ∙ rw (t, here))

no_second : (e : Encoder) (ls : List ℕ) → added_second_by runs_coder e ls ≡ []
unfolding added_second_by runs_coder
no_second e [] = refl
no_second e (p ∷ ls) = no_second (taken_by runs_coder e p) ls

length_pairs : (r : ℕ) (ls is : List ℕ) → length (end_pairs r ls is) ≡ 8 * length is
unfolding end_pairs
length_pairs r ls [] = refl
length_pairs r ls (i ∷ is) =
    let x : List ℕ = pair (get_or ls i 0) (get_or ls i 0 - (r + i)) in
    let n = length-pair (get_or ls i 0) (get_or ls i 0 - (r + i)) in
    let m = length_pairs r ls is in
    length-append x (end_pairs r ls is) ∙ omega arith

module _ (e : Encoder) (p : ℕ) (ls : List ℕ) (a : Along e (p ∷ ls)) where
  added-after : added_first_by runs_coder (taken_by runs_coder e p) ls ≡ end_pairs e.rank (p ∷ ls) (ends_of (p ∷ ls))
  unfolding taken_by ends_of
  added-after =
      added-ends (p ∷ ls) 16777216 e.rank 0 (taken_by runs_coder e p) ls (omega arith) (λ k. rw (zero-add k)) a.rising.2

  after-room : (n : ℕ) → RoomAll runs_coder e (p ∷ ls) n → (taken_by runs_coder e p).first + 8 * length (ends_of (p ∷ ls)) ≤ n
  after-room n r =
      let t = room_tail runs_coder e p ls n r in
      let x = t.first in
      let y = t.second in
      let m = ap length added-after ∙ length_pairs e.rank (p ∷ ls) (ends_of (p ∷ ls)) in
      omega arith

  put-after : (d : List ℕ) → RoomAll runs_coder e (p ∷ ls) (length d)
      → put (put_by runs_coder d e p) (taken_by runs_coder e p).first (end_pairs e.rank (p ∷ ls) (ends_of (p ∷ ls))) ≡ put_all_by runs_coder d e (p ∷ ls)
  unfolding put_all_by
  put-after d r =
      sym
      (put-all_cons runs_coder e p ls (length d) r d
      ∙ ap₂ (λ (x y : List ℕ). put (put (put_by runs_coder d e p) (taken_by runs_coder e p).first x) (taken_by runs_coder e p).second y) added-after
      (no_second (taken_by runs_coder e p) ls)
      ∙ put_nil _ (taken_by runs_coder e p).second)

-- as the code has them: x is the encoder after the first position, and o the destination
module _ (e : Encoder) (x : Encoder) where
  pub ends-room : (ls : List ℕ) (n : ℕ) → (length ls ≡ 0 → ⊥) → Along e ls → RoomAll runs_coder e ls n → x ≡ taken_by runs_coder e (get_or ls 0 0)
      → x.first + 8 * length (ends_of ls) ≤ n
  ends-room [] n h a r q = absurd (h refl)
  ends-room (p ∷ ls) n h a r q = rw q (after-room e p ls a n r)

  pub put-far : (ls d o : List ℕ) → (length ls ≡ 0 → ⊥) → Along e ls → RoomAll runs_coder e ls (length d) → x ≡ taken_by runs_coder e (get_or ls 0 0)
      → o ≡ put_by runs_coder d e (get_or ls 0 0) → put o x.first (end_pairs e.rank ls (ends_of ls)) ≡ put_all_by runs_coder d e ls
  put-far [] d o h a r q w = absurd (h refl)
  put-far (p ∷ ls) d o h a r q w = rw (q, w) (put-after e p ls a d r)

-- ---- a loop over the ends

module _ (r at : ℕ) (ps ends : List ℕ) where
  pub ends_turn : (d : List ℕ) (t : ℕ) → t < length ends
      → put (put d (at + 8 * t) (pair (get_or ps (get_or ends t 0) 0) (get_or ps (get_or ends t 0) 0 - (r + get_or ends t 0)))) (at + 8 * (t + 1)) (end_pairs r ps (drop (t + 1) ends))
      ≡ put d (at + 8 * t) (end_pairs r ps (drop t ends))
  unfolding end_pairs
  ends_turn d t h =
      let i : ℕ = get_or ends t 0 in
      let x : List ℕ = pair (get_or ps i 0) (get_or ps i 0 - (r + i)) in
      let n : at + 8 * (t + 1) ≡ at + 8 * t + length x = omega (arith, length-pair (get_or ps i 0) (get_or ps i 0 - (r + i))) in
      rw (n, ← put-append d (at + 8 * t) x (end_pairs r ps (drop (t + 1) ends)), drop-cons ends t 0 h, add-one t)

  pub ends-done : (d : List ℕ) (t : ℕ) → length ends ≤ t → put d (at + 8 * t) (end_pairs r ps (drop t ends)) ≡ d
  unfolding end_pairs put
  ends-done d t h = rw (drop_of_length-le ends {i = t} h)
