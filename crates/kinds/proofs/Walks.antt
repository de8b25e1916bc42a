-- A walk along an accepted file: rank by rank, and batch by batch; its positions never fall. Assumes nothing.
use Prim.Native.Nat.{ℕ, suc, ◌+◌, ◌-◌, ◌≤◌, ◌<◌}
use mathlib.Core.Path.{◌≡◌, sym, ap, ◌∙◌}
use mathlib.Core.List.{List, ◌∷◌, ◌++◌}
use native.Mathlib.Nat.{sub-zero}
use native.Mathlib.Numerals.{add-one}
use native.Mathlib.Omega.{arith}
use lib.ListN.{length, take, drop, get_or}
use lib.Seq.{length-take-le, length_front, take-append_seam, drop-append_seam, drop-drop, drop-cons}
use Rattle.format.specs.declared.View.{View}
use Rattle.format.specs.Accepted.{positions_of}
use Rattle.laws.proofs.Positions.{rising_le}
use Rattle.parts.specs.declared.Cursor.{Cursor}
use Rattle.parts.specs.Holds.{ViewOf}
use Rattle.parts.specs.Cursor.{walked_as, stepped_as}
use Rattle.parts.specs.Walks.{Climbs}
use Rattle.parts.proofs.Batches.{walked_as_add, length-walked_as}
use Rattle.parts.proofs.Places.{rising-below}
use Rattle.parts.proofs.Seen.{seen}
use Rattle.kinds.specs.Steps.{next_of, start_of, walked, stepped_by}
use Rattle.kinds.proofs.Laws.{walks}

module _ (b : List ℕ) (v : View) where
  pub walked_add : (c : Cursor) (m n : ℕ) → walked b v c (m + n) ≡ walked b v c m ++ walked b v (stepped_by b v c m) n
  unfolding walked stepped_by
  walked_add c m n = walked_as_add (next_of b v) c m n

  pub length-walked : (c : Cursor) (n : ℕ) → length (walked b v c n) ≡ n
  unfolding walked
  length-walked c n = length-walked_as (next_of b v) c n

  -- what is left of a walk from rank r on
  abbrev pub Ahead : Cursor → ℕ → Type 0
  Ahead c r = walked b v c (v.words - r) ≡ drop r (positions_of b)

-- the walk from the start: all the stored positions
pub walk_start : (b : List ℕ) (v : View) → ViewOf b v → Ahead b v (start_of b v) 0
walk_start b v o =
    let s = (seen b v o).holds in
    let w : walked b v (start_of b v) (length (positions_of b)) ≡ positions_of b = walks b v (positions_of b) s in
    ap (walked b v (start_of b v)) (sub-zero v.words ∙ sym s.size) ∙ w

-- One turn, at rank r: where the cursor stands, and what is left.
pub record Turned (b : List ℕ) (v : View) (c : Cursor) (r : ℕ) : Type 0 where
  pub position : c.at ≡ get_or (positions_of b) r 0
  pub below : c.at < v.cells
  pub rest : Ahead b v (next_of b v c) (r + 1)

pub walk-next : (b : List ℕ) (v : View) → ViewOf b v → (c : Cursor) (r : ℕ) → r < v.words → Ahead b v c r → Turned b v c r
unfolding walked walked_as
walk-next b v o c r n e =
    let s = (seen b v o).holds in
    let ls = positions_of b in
    let z = s.size in
    let m : v.words - r ≡ suc (v.words - (r + 1)) = omega arith in
    let d : drop r ls ≡ get_or ls r 0 ∷ drop (r + 1) ls = drop-cons ls r 0 (omega arith) ∙ rw add-one in
    let t : c.at ∷ walked_as (next_of b v) (next_of b v c) (v.words - (r + 1)) ≡ get_or ls r 0 ∷ drop (r + 1) ls = rw m at e ∙ d in
    let q : c.at ≡ get_or ls r 0 = cc in
    let f = rising-below 0 v.cells ls r s.rising (omega arith) in
    record { position = q; below = omega arith; rest = (cc) }

-- ---- batch by batch

-- n steps from rank r on: the positions along them, and what is left
pub record Batched (b : List ℕ) (v : View) (c : Cursor) (r n : ℕ) : Type 0 where
  pub positions : walked b v c n ≡ take n (drop r (positions_of b))
  pub rest : Ahead b v (stepped_by b v c n) (r + n)

pub batched : (b : List ℕ) (v : View) (c : Cursor) (r n : ℕ) → r + n ≤ v.words → Ahead b v c r → Batched b v c r n
batched b v c r n fits e =
    let left = walked b v (stepped_by b v c n) (v.words - (r + n)) in
    let m : v.words - r ≡ n + (v.words - (r + n)) = omega arith in
    let s : drop r (positions_of b) ≡ walked b v c n ++ left = sym e ∙ rw m (walked_add b v c n (v.words - (r + n))) in
    let k = length-walked b v c n in
    record {
      positions = sym (rw s (rw k at (take-append_seam (walked b v c n) left)));
      rest = sym (rw k at (drop-append_seam (walked b v c n) left)) ∙ ap (drop n) (sym s) ∙ drop-drop n r (positions_of b);
    }

-- the same in a buffer, whose first n elements have become out, with the cursor d
pub record Taken (b : List ℕ) (v : View) (d : Cursor) (r n : ℕ) (buffer out : List ℕ) : Type 0 where
  pub front : take n (out ++ drop n buffer) ≡ take n (drop r (positions_of b))
  pub size : length (out ++ drop n buffer) ≡ length buffer
  pub count : length (take n (out ++ drop n buffer)) ≡ n
  pub rest : Ahead b v d (r + n)

pub taken : (b : List ℕ) (v : View) (c d : Cursor) (r n : ℕ) (buffer out : List ℕ) → n ≤ length buffer → r + n ≤ v.words → Ahead b v c r
    → d ≡ stepped_by b v c (length (take n buffer)) → out ≡ walked b v c (length (take n buffer)) → Taken b v d r n buffer out
taken b v c d r n buffer out small fits e s w =
    let k = length-take-le n buffer small in
    let t = batched b v c r n fits e in
    let o : out ≡ walked b v c n = rw k at w in
    let l : length out ≡ n = ap length o ∙ length-walked b v c n in
    let q : take n (out ++ drop n buffer) ≡ out = rw l at (take-append_seam out (drop n buffer)) in
    record {
      front = q ∙ o ∙ t.positions;
      size = length_front buffer out n (l ∙ sym k);
      count = ap length q ∙ l;
      rest = rw (rw k at s) t.rest;
    }

-- ---- positions that never fall

stepped-at : (b : List ℕ) (v : View) → ViewOf b v → (c : Cursor) → Ahead b v c c.rank → (k : ℕ) → c.rank + k < v.words
    → (stepped_as (next_of b v) c k).at ≡ get_or (positions_of b) (c.rank + k) 0
unfolding stepped_by
stepped-at b v o c a k h = (walk-next b v o (stepped_by b v c k) (c.rank + k) h (batched b v c c.rank k (omega arith) a).rest).position

pub climbs : (b : List ℕ) (v : View) → ViewOf b v → (c : Cursor) → Ahead b v c c.rank → Climbs (next_of b v) v.words c
climbs b v o c a =
    let s = (seen b v o).holds in
    let z = s.size in
    record {
      rise = λ k m h.
          let f = stepped-at b v o c a k (omega arith) in
          let g = stepped-at b v o c a (k + m) h in
          let l = rising_le 0 v.cells (positions_of b) (c.rank + k) (c.rank + (k + m)) s.rising (omega arith) (omega arith) in
          omega arith;
    }
