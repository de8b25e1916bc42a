-- Positions stored along the steps of a cursor, where the differences are all there. Assumes nothing.
use Rattle.std.proofs.Common.{◌≡◌, ℕ, zero, suc, ◌+◌, ◌*◌, ◌^◌, ◌<◌, ◌≤◌, true, not, eqb, List, length, set, sym, refl, ap, ◌∙◌, append-nil, add-zero, add-one, arith, take, drop, length-take, length-drop, drop_of_length-le, ne_eqb, eqb-true}
use borrow.Author.Tests.{eqb-false, not-true}
use Rattle.format.specs.Bytes.{field}
use Rattle.laws.proofs.Tools.{cases, both_true}
use Rattle.wire.specs.Wire.{whole, add32}
use Rattle.wire.proofs.Laws.{whole-there}
use Rattle.stores.specs.Put.{put}
use borrow.Rule.Slice.PartMut.{put_mid}
use Rattle.stores.proofs.Laws.{put-append, put_front, length-put}
use Rattle.stores.proofs.Copied.{put_written}
use Rattle.parts.specs.declared.Cursor.{Cursor}
use Rattle.parts.specs.Cursor.{moved_to, walked_as, stepped_as, Batch}
use Rattle.parts.proofs.Steps.{add32-small}
use Rattle.parts.proofs.Batches.{stand, walked_as_add, stepped_as_add, length-walked_as}
use Rattle.differences.specs.Walk.{Room, plain}
use Rattle.differences.proofs.Sums.{earlier}
use Rattle.difference_rows.specs.Steps.{jump_by, jump_from, next_at, Filled}

-- ---- the step

module _ (w start second : ℕ) (b : List ℕ) where
  -- where the next difference is there
  pub step-there : (c : Cursor) → Room w second b (c.rank + 1) → {d : ℕ} → d ≡ field w (second + w * (c.rank + 1)) b
      → jump_by b start d c ≡ next_at w start second b c
  unfolding next_at
  step-there c z e =
      let n = z.rank in
      rw (e, add32-small c.rank 1 n, whole-there w (second + w * (c.rank + 1)) b z.inside)

  pub step-rank : (c : Cursor) → c.rank + 1 < 2 ^ 32 → (next_at w start second b c).rank ≡ c.rank + 1
  unfolding next_at jump_by jump_from moved_to
  step-rank c h =
      let d = whole w (second + w * add32 c.rank 1) b in
      cases (eqb d 0) (λ e. rw e (add32-small c.rank 1 h)) (λ e. rw e (add32-small c.rank 1 h))

-- ---- a loop that takes m steps from c₀ and stores from an index on

-- it is at c, k steps are left, and the next position goes to index i: what is left gives the whole
pub record Left (f : Cursor → Cursor) (c₀ : Cursor) (from m : ℕ) (before : List ℕ) (c : Cursor) (i k : ℕ) (out : List ℕ) : Type 0 where
  pub cursor : stepped_as f c k ≡ stepped_as f c₀ m
  pub positions : put out i (walked_as f c k) ≡ put before from (walked_as f c₀ m)

-- so no element was added or lost
pub left-length : {f : Cursor → Cursor} {c₀ : Cursor} {from m : ℕ} {before : List ℕ} {c : Cursor} {i k : ℕ} {out : List ℕ} → Left f c₀ from m before c i k out → length out ≡ length before
left-length {f} {c₀} {from} {m} {before} {c} {i} {k} {out} l =
    sym (length-put out i (walked_as f c k)) ∙ ap length l.positions ∙ length-put before from (walked_as f c₀ m)

module _ (f : Cursor → Cursor) (c₀ : Cursor) (from m : ℕ) (before : List ℕ) where
  pub fill_begin : Left f c₀ from m before c₀ from m before
  fill_begin = record { cursor = refl; positions = refl }

  module _ (c : Cursor) (i k : ℕ) (out : List ℕ) (l : Left f c₀ from m before c i k out) where
    pub fill_turn : (j : ℕ) → k ≡ suc j → {d : Cursor} → d ≡ f c → Left f c₀ from m before d (i + 1) j (set out i c.at)
    unfolding stepped_as walked_as put
    fill_turn j e h =
        rw (h, add-one i)
        (record { cursor = rw e at l.cursor; positions = rw e at l.positions })

    -- by j steps at once
    pub fill_more : (j n : ℕ) → k ≡ j + n → {d : Cursor} {o : List ℕ} → Filled f c i j out d o → Left f c₀ from m before d (i + j) n o
    fill_more j n e z =
        let a = put-append out i (walked_as f c j) (walked_as f (stepped_as f c j) n) in
        let g = rw (length-walked_as f c j) at a in
        rw (z.cursor, z.positions)
        (record {
          cursor = sym (stepped_as_add f c j n) ∙ rw e at l.cursor;
          positions = sym g ∙ ap (put out i) (sym (walked_as_add f c j n)) ∙ rw e at l.positions;
        })

    pub fill_end : k ≡ 0 → Filled f c₀ from m before c out
    unfolding stepped_as walked_as put
    fill_end e = record { cursor = rw e at l.cursor; positions = rw e at l.positions }

    -- by all that are left
    pub fill_last : {d : Cursor} {o : List ℕ} → Filled f c i k out d o → Filled f c₀ from m before d o
    fill_last z = record { cursor = z.cursor ∙ l.cursor; positions = z.positions ∙ l.positions }

-- ---- a loop that goes rank by rank

-- before the turn of index i: the differences up to the end are there, and what is left gives the whole
pub record Going (w start second : ℕ) (b : List ℕ) (c₀ : Cursor) (from m : ℕ) (before : List ℕ) (c : Cursor) (i k : ℕ) (out : List ℕ) : Type 0 where
  pub room : Room w second b (c.rank + k)
  pub left : Left (next_at w start second b) c₀ from m before c i k out

module _ (w start second : ℕ) (b : List ℕ) (c₀ : Cursor) (from m : ℕ) (before : List ℕ) where
  pub going_begin : Room w second b (c₀.rank + m) → Going w start second b c₀ from m before c₀ from m before
  going_begin z = record { room = z; left = fill_begin (next_at w start second b) c₀ from m before }

  module _ (c : Cursor) (i k : ℕ) (out : List ℕ) (h : 0 < k) (g : Going w start second b c₀ from m before c i k out) where
    pub going_room : Room w second b (c.rank + 1)
    going_room = earlier w second b g.room (omega arith)

    pub going_turn : (j : ℕ) → k ≡ suc j → {d : ℕ} → d ≡ field w (second + w * (c.rank + 1)) b → {e : Cursor} → e ≡ jump_by b start d c
        → Going w start second b c₀ from m before e (i + 1) j (set out i c.at)
    going_turn j q f s =
        let n = going_room.rank in
        let t = s ∙ step-there w start second b c going_room f in
        let r : c.rank + k ≡ c.rank + 1 + j = omega arith in
        let y : Room w second b (c.rank + 1 + j) = rw r at g.room in
        record {
          room = rw (t, step-rank w start second b c n) y;
          left = fill_turn (next_at w start second b) c₀ from m before c i k out g.left j q t;
        }

  stepped-rank : (m : ℕ) (c : Cursor) → c.rank + m < 2 ^ 32 → (stepped_as (next_at w start second b) c m).rank ≡ c.rank + m
  unfolding stepped_as
  stepped-rank zero c h = sym (add-zero c.rank)
  stepped-rank (suc m) c h =
      let r : (next_at w start second b c).rank ≡ c.rank + 1 = step-rank w start second b c (omega arith) in
      stepped-rank m (next_at w start second b c) (omega arith) ∙ omega arith

  -- by j ranks at once
  pub going_more : (c : Cursor) (i k : ℕ) (out : List ℕ) → Going w start second b c₀ from m before c i k out → (j n : ℕ) → k ≡ j + n → {d : Cursor} {o : List ℕ}
      → Filled (next_at w start second b) c i j out d o → Going w start second b c₀ from m before d (i + j) n o
  going_more c i k out g j n e {d} z =
      let h = g.room.rank in
      let r : d.rank ≡ c.rank + j = ap (λ x. x.rank) z.cursor ∙ stepped-rank j c (omega arith) in
      let q : c.rank + k ≡ d.rank + n = omega arith in
      record { room = rw q at g.room; left = fill_more (next_at w start second b) c₀ from m before c i k out g.left j n e z }

pub filled-length : (f : Cursor → Cursor) (c : Cursor) (from m : ℕ) (before : List ℕ) {r : Cursor} {after : List ℕ} → Filled f c from m before r after → length after ≡ length before
filled-length f c from m before z = ap length z.positions ∙ length-put before from (walked_as f c m)

-- all of a list is put over
put_whole : (d xs : List ℕ) → length xs ≡ length d → put d 0 xs ≡ xs
put_whole d xs n = put_front d xs (omega arith) ∙ rw (drop_of_length-le d {i = length xs} (omega arith)) (append-nil xs)

-- j elements from an index on, filled as a slice of k
pub filled_part : (f : Cursor → Cursor) (c : Cursor) (i k j : ℕ) (out : List ℕ) → k ≡ j → i + j ≤ length out → {n : ℕ} → n ≡ j → {r : Cursor} {ys : List ℕ}
    → Filled f c 0 n (take k (drop i out)) r ys → Filled f c i j out r (put_mid i k out ys)
filled_part f c i k j out e h q z =
    let xs = walked_as f c j in
    let m : length xs ≡ j = length-walked_as f c j in
    let part : length (take k (drop i out)) ≡ j = simp (length-take, length-drop) (omega arith) in
    let y = rw q at z in
    record {
      cursor = y.cursor;
      positions = put_written i k out _ xs (y.positions ∙ put_whole (take k (drop i out)) xs (omega arith)) (omega arith) (omega arith);
    }

-- all elements are filled
pub filled_batch : (f : Cursor → Cursor) (c : Cursor) (before : List ℕ) {r : Cursor} {after : List ℕ} → Filled f c 0 (length before) before r after
    → Batch f c (length before) r after
filled_batch f c before z =
    let xs = walked_as f c (length before) in
    let n : length xs ≡ length before = length-walked_as f c (length before) in
    record {
      cursor = z.cursor;
      positions = z.positions ∙ put_whole before xs n;
    }

-- ---- differences without a jump

module _ (w second : ℕ) (b : List ℕ) (r : ℕ) where
  plain_at : (n k : ℕ) → plain w second b r n ≡ true → k < n → field w (second + w * (r + k + 1)) b ≡ 0 → ⊥
  unfolding plain
  plain_at zero k h l z = absurd (omega arith)
  plain_at (suc n) k h l z =
      let y = both_true (not (eqb (field w (second + w * (r + suc n)) b) 0)) (plain w second b r n) h in
      cases (eqb k n)
      (λ e.
      let q : r + k + 1 ≡ r + suc n = omega (arith, eqb-true k n e) in
      eqb-false (field w (second + w * (r + suc n)) b) 0 (not-true _ y.0) (rw q at z))
      (λ e. let q = eqb-false k n e in plain_at n k y.1 (omega arith) z)

-- one rank further without a jump
pub stand_next : (w start second : ℕ) (b : List ℕ) (c : Cursor) (n k p : ℕ) → Room w second b (c.rank + n) → plain w second b c.rank n ≡ true → k < n
    → {d : ℕ} → d ≡ field w (second + w * (c.rank + k + 1)) b → stand c (k + 1) (add32 p d) ≡ next_at w start second b (stand c k p)
unfolding jump_by moved_to
stand_next w start second b c n k p z h l {d} e =
    let q : c.rank + (k + 1) ≡ c.rank + k + 1 = omega arith in
    let y : Room w second b (c.rank + k + 1) = earlier w second b z (omega arith) in
    let s = step-there w start second b (stand c k p) y e in
    let x : d ≡ 0 → ⊥ = λ t. plain_at w second b c.rank n k h l (sym e ∙ t) in
    let m = y.rank in
    rw (ne_eqb d 0 x, add32-small (c.rank + k) 1 m, ← q) at s
