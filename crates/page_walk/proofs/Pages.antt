-- Kind 5: a batch page by page. Assumes nothing.
use Rattle.std.proofs.Common.{◌≡◌, ℕ, zero, suc, ◌+◌, ◌-◌, ◌*◌, ◌^◌, ◌<◌, ◌≤◌, ltb, List, length, take, sym, refl, ◌∙◌, append_assoc, append-nil, arith, take_all, le-ltb, lt-ltb}
use native.Mathlib.Nat.{sub-zero}
use Rattle.laws.proofs.Tools.{cases}
use Rattle.wire.specs.declared.Pair.{Pair}
use Rattle.wire.specs.Wire.{pair_at, add32}
use Rattle.parts.specs.declared.Cursor.{Cursor}
use Rattle.parts.specs.Cursor.{along_run, along_by, walked_as, stepped_as, Batch}
use Rattle.parts.specs.Stretch.{Stretch}
use Rattle.parts.specs.Walks.{GoesAlong}
use Rattle.parts.proofs.Steps.{add32-small}
use Rattle.parts.proofs.Along.{walked-along, past-along}
use Rattle.parts.proofs.Batches.{walked_as_add, stepped_as_add}
use Rattle.page_walk.specs.Steps.{page_of, entered_by, entered, next_in, There, Filled}
use Rattle.page_walk.proofs.Walk.{in_along, page-next}

-- ---- elements filled by any step

module _ (f : Cursor → Cursor) where
  pub filled_none : (c : Cursor) (from : ℕ) (out : List ℕ) → from ≤ length out → Filled f c from from out c out
  unfolding walked_as stepped_as
  filled_none c from out h =
      let z : from - from ≡ 0 = omega arith in
      record { low = omega arith; high = h; size = refl; cursor = rw z; positions = rw z (sym (append-nil (take from out))) }

  -- up to j, then up to k
  pub filled-then : (c d e : Cursor) (i j k : ℕ) (out mid after : List ℕ) → Filled f c i j out d mid → Filled f d j k mid e after → Filled f c i k out e after
  filled-then c d e i j k out mid after p q =
      let p0 = p.low in
      let q0 = q.low in
      let q1 = q.high in
      let s = p.size in
      let m : k - i ≡ (j - i) + (k - j) = omega arith in
      record {
        low = omega arith;
        high = omega arith;
        size = q.size ∙ s;
        cursor = q.cursor ∙ rw (p.cursor, m) (sym (stepped_as_add f c (j - i) (k - j)));
        positions =
            q.positions
            ∙ rw (p.positions, p.cursor, m, walked_as_add f c (j - i) (k - j))
            (append_assoc (take i out) (walked_as f c (j - i)) (walked_as f (stepped_as f c (j - i)) (k - j)));
      }

  -- all of them
  pub filled-all : (c d : Cursor) (n : ℕ) (out after : List ℕ) → length out ≤ n → Filled f c 0 n out d after → Batch f c (length out) d after
  filled-all c d n out after h p =
      let high = p.high in
      let e : length out ≡ n = omega arith in
      let z = sub-zero n in
      let s = p.size in
      record {
        cursor = rw e (rw z at p.cursor);
        positions = rw e (sym (take_all n after (omega arith)) ∙ rw z at p.positions);
      }

  -- m cells of the cursor's run
  pub filled-run : GoesAlong f → (c d : Cursor) (i m : ℕ) (out after : List ℕ) → Stretch c i m out after → d ≡ stepped_as f c (m - 1 + 1)
      → Filled f c i (i + m) out d after
  filled-run same c d i m out after z s =
      let one = z.some in
      let run = z.inside in
      let n : i + m - i ≡ m = omega arith in
      let j : m - 1 + 1 ≡ m = omega arith in
      let k : suc (m - 1) ≡ m = omega arith in
      let w = rw k at (walked-along f same (m - 1) c (omega arith)) in
      record {
        low = omega arith;
        high = z.room;
        size = z.filled.size;
        cursor = rw n (rw j at s);
        positions = rw (n, w) (z.filled.front m (omega arith) z.small);
      }

-- ---- the entries are there

module _ (b : List ℕ) (second step : ℕ) where
  -- at most one entry is read in a step
  near : (c : Cursor) → (next_in b second step c).next ≤ c.next + 1
  unfolding next_in along_run entered entered_by
  near c =
      cases (ltb c.at c.last)
      (λ t. rw t (omega arith))
      (λ t. rw (t, page-next step c) (most c.next))
    where
      most : (n : ℕ) → add32 n 1 ≤ n + 1
      most n = unfold add32 in omega arith

  stepped-near : (m : ℕ) (c : Cursor) → (stepped_as (next_in b second step) c m).next ≤ c.next + m
  unfolding stepped_as
  stepped-near zero c = omega arith
  stepped-near (suc m) c = let h = near c in let i = stepped-near m (next_in b second step c) in omega arith

  pub still_there : (c d : Cursor) (i j : ℕ) (out after : List ℕ) → There b second c (length out - i) → Filled (next_in b second step) c i j out d after
      → There b second d (length out - j)
  still_there c d i j out after t p =
      let low = p.low in
      let high = p.high in
      let n = stepped-near (j - i) c in
      rw p.cursor (omega arith)

  -- ---- a stretch of the run, and then one step in the page

  module _ (c : Cursor) (k : ℕ) (r : c.rank < 2 ^ 32) (a : c.at + k < 2 ^ 32) (h : k ≤ c.last - c.at) where
    pub in_run : c.at + k < c.last
        → record { rank = add32 (add32 c.rank k) 1; at = c.at + k + 1; next = c.next; last = c.last; used = c.used; base = c.base; empty = c.empty }
        ≡ stepped_as (next_in b second step) c (k + 1)
    unfolding along_run along_by
    in_run l =
        let s = add32-small c.at k a in
        rw (← s) (sym (in_along b second step (along_by k c) (rw s l)) ∙ past-along (next_in b second step) (in_along b second step) k c r a h)

    pub in_page : (x : Pair) → c.last ≤ c.at + k → c.used < step → x ≡ pair_at (second + 8 * c.next) b
        → record {
          rank = add32 (add32 c.rank k) 1;
          at = add32 (add32 (add32 c.rank k) 1) (add32 c.empty x.second);
          next = add32 c.next 1;
          last = add32 c.base x.first;
          used = c.used + 1;
          base = c.base;
          empty = c.empty;
        }
        ≡ stepped_as (next_in b second step) c (k + 1)
    unfolding next_in entered entered_by page_of along_by
    in_page x l u e =
        let s = add32-small c.at k a in
        let o = past-along (next_in b second step) (in_along b second step) k c r a h in
        rw (s, le-ltb (c.at + k) c.last l, lt-ltb c.used step u, ← e) at o
