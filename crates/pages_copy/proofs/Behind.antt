-- The runs behind a cursor at the end of its run, in its page, over parts that hold stored positions: their entries follow on each other. Assumes nothing.
use Rattle.std.proofs.Common.{◌≡◌, ℕ, zero, suc, ◌+◌, ◌-◌, ◌*◌, ◌^◌, ◌<◌, ◌≤◌, List, [], ◌∷◌, length, drop, sym, ap, ◌∙◌, subst, add-zero, add-one, arith}
use Rattle.format.specs.declared.View.{View}
use Rattle.format.specs.Runs.{Span}
use Rattle.format.specs.PagedRuns.{plus, sums_from, flat_spans, pages_kind}
use Rattle.wire.specs.declared.Pair.{Pair}
use Rattle.wire.specs.Wire.{pair_at, field_pair, add32}
use Rattle.wire.proofs.Laws.{pair-there}
use Rattle.parts.specs.declared.Cursor.{Cursor}
use Rattle.parts.specs.Cursor.{before, stepped_as}
use Rattle.parts.specs.Holds.{Holds}
use Rattle.parts.specs.Carried.{Reached}
use Rattle.parts.proofs.Batches.{stepped_as_add}
use Rattle.parts.proofs.Entries.{Entries, first-pair, rest_pairs}
use Rattle.parts.proofs.RunWalk.{Fit}
use Rattle.page_walk.specs.Steps.{next}
use Rattle.page_walk.proofs.GoodPairs.{Good}
use Rattle.page_walk.proofs.Along.{least-one}
use Rattle.paged_runs.proofs.Held.{inside}
use Rattle.page_walk.proofs.Walk.{Ahead, turn, held_ahead, walks}

-- ---- the entries of a page

-- after n cells before the page: the run of the entry y begins with empty cells behind that of x, has a stored cell, and ends by B
pub record Follow (B n : ℕ) (x y : Pair) : Type 0 where
  pub empty : x.second < y.second
  pub stored : x.first + (y.second - x.second) < y.first
  pub most : n + y.first ≤ B

module _ (b : List ℕ) (s step B n : ℕ) where
  -- entry i has the page's sum a, and those behind it are made of the pairs xs
  follow_at : (t i k e : ℕ) (a : Span) (xs : List Span) → pair_at (s + 8 * i) b ≡ record { first = a.cells; second = a.empty } → n + a.cells ≡ e → 1 ≤ e
      → Good e xs → Fit B e xs → Entries b 4 s (2 * suc i) (flat_spans (sums_from step k a xs)) → t < length xs → t < k
      → Follow B n (pair_at (s + 8 * (i + t)) b) (pair_at (s + 8 * (i + suc t)) b)
  unfolding sums_from flat_spans
  follow_at t i zero e a xs p c o g f es h l = absurd (omega arith)
  follow_at t i (suc k) e a [] p c o g f es h l = absurd (omega arith)
  follow_at zero i (suc k) e a (x ∷ xs) p c o g f es h l =
      let q = first-pair b s (suc i) (a.cells + x.cells) (a.empty + x.empty) _ es in
      let z : i + 0 ≡ i = add-zero i in
      let y : i + 1 ≡ suc i = omega arith in
      let g0 = rw (least-one e o) at g.0 in
      let g1 = g.1 in
      let f1 = f.1 in
      rw (z, y, p, q) (record { empty = omega arith; stored = omega arith; most = omega arith })
  follow_at (suc t) i (suc k) e a (x ∷ xs) p c o g f es h l =
      let q = first-pair b s (suc i) (a.cells + x.cells) (a.empty + x.empty) _ es in
      let z : i + suc t ≡ suc i + t = omega arith in
      let y : i + suc (suc t) ≡ suc i + suc t = omega arith in
      rw (z, y)
      (follow_at t (suc i) k (e + x.cells) (plus a x) xs q (omega arith) (omega arith) g.2 f.2
      (rest_pairs b s (suc i) (a.cells + x.cells) (a.empty + x.empty) _ es) (omega arith) (omega arith))

-- ---- at a cursor

-- the entry of the run t runs behind the cursor's
abbrev pub pair_on : List ℕ → View → Cursor → ℕ → Pair
pair_on b v c t = pair_at (v.second + 8 * (c.next - 1 + t)) b

-- the cursor is at the end of its run, and m more runs are in its page
pub record Behind (b : List ℕ) (v : View) (c : Cursor) (m : ℕ) : Type 0 where
  pub some : 1 ≤ c.next
  pub ended : c.at ≡ c.last
  pub cells : c.last + 1 ≡ add32 c.base 1 + (pair_on b v c 0).first
  pub ranks : c.last ≡ c.rank + (c.empty + (pair_on b v c 0).second)
  pub below : c.last < 16777216
  pub base : c.base < 2 ^ 32
  pub used : c.used + m ≤ v.step
  pub next : c.next + m ≤ v.seconds
  pub few : v.seconds ≤ 16777216
  pub small : v.step ≤ 64
  pub long : v.second + 8 * v.seconds ≤ length b
  pub follow : (t : ℕ) → t < m → Follow 16777216 (add32 c.base 1) (pair_on b v c t) (pair_on b v c (suc t))

-- as the code reads them
module _ (b : List ℕ) (v : View) (c : Cursor) (m : ℕ) (w : Behind b v c m) where
  pub entry_there : (t : ℕ) → t ≤ m → v.second + 8 * (c.next - 1) + 8 * t + 8 ≤ length b
  entry_there t k = let o = w.some in let h = w.next in let l = w.long in omega arith

  pub pair_on_lem : (t : ℕ) → t ≤ m → field_pair (v.second + 8 * (c.next - 1) + 8 * t) b ≡ pair_on b v c t
  pair_on_lem t k =
      let z : v.second + 8 * (c.next - 1) + 8 * t ≡ v.second + 8 * (c.next - 1 + t) = omega arith in
      sym (pair-there (v.second + 8 * (c.next - 1) + 8 * t) b (entry_there t k)) ∙ ap (λ (i : ℕ). pair_at i b) z

  pub pair-here : field_pair (v.second + 8 * (c.next - 1)) b ≡ pair_on b v c 0
  pair-here = let z : v.second + 8 * (c.next - 1) + 8 * 0 ≡ v.second + 8 * (c.next - 1) = omega arith in rw z at (pair_on_lem 0 (omega arith))

-- a rank that was reached fits 32 bits
pub reached_small : (b : List ℕ) (v : View) (words : ℕ) (c : Cursor) (n : ℕ) → Reached (next b v) words c n → c.rank < 2 ^ 32
unfolding add32 stepped_as
reached_small b v words c n q =
    let o : c ≡ next b v (stepped_as (next b v) before q.rank) = q.steps ∙ ap (stepped_as (next b v) before) (sym (add-one q.rank)) ∙ stepped_as_add (next b v) before q.rank 1 in
    let e = ap (λ (x : Cursor). x.rank) o ∙ walks.rank b v _ in
    omega arith

-- the position and the rank where a run ends
ends_at : (at rank e v B : ℕ) → at < 2 ^ 32 → rank < 2 ^ 32 → 1 ≤ e → e ≤ B → B ≤ 16777216 → add32 at 1 ≡ add32 rank 1 + v → add32 rank 1 + v + 0 ≡ e → at - rank ≡ v
    → (at + 1 ≡ e) × (at ≡ rank + v)
unfolding add32
ends_at at rank e v B p q o k s h r d = (omega arith, omega arith)

module _ (b : List ℕ) (v : View) (ls : List ℕ) (h : Holds (pages_kind v.width v.step) b v ls) where
  ahead_by : (n : ℕ) (c : Cursor) (ps : List ℕ) → n ≤ length ps → Ahead b v v.cells c ps → Ahead b v v.cells (stepped_as (next b v) c n) (drop n ps)
  unfolding stepped_as
  ahead_by zero c ps k a = a
  ahead_by (suc n) c [] k a = absurd (omega arith)
  ahead_by (suc n) c (p ∷ ps) k a =
      let m = h.counted.cells-most in
      ahead_by n (next b v c) ps (omega arith) (turn b v v.cells (omega arith) c p ps a).1

  module _ (c : Cursor) (q : Reached (next b v) v.words c 1) where
    ahead-here : Ahead b v v.cells c (drop (suc q.rank) ls)
    ahead-here =
        let k = q.most in
        let s = h.size in
        subst (λ (x : Cursor). Ahead b v v.cells x (drop (suc q.rank) ls)) (sym q.steps) (ahead_by (suc q.rank) before ls (omega arith) (held_ahead b v ls h))

    pub behind : (m : ℕ) → 1 ≤ m → (c.at ≡ c.last) × (c.used + m ≤ v.step) × (c.next + m ≤ v.seconds) → Behind b v c m
    behind m o k =
        let k0 = k.0 in
        let k1 = k.1 in
        let k2 = k.2 in
        let a = ahead-here in
        let u : c.used < v.step = omega arith in
        let d = a.read u in
        let i = inside b v h.counted in
        let most = h.counted.cells-most in
        let l = a.along in
        let some = d.some in
        let z : c.next - 1 + 0 ≡ c.next - 1 = add-zero (c.next - 1) in
        let y : suc (c.next - 1) ≡ c.next = omega arith in
        let x : pair_on b v c 0 ≡ record { first = a.a.cells; second = a.a.empty } = ap (λ (j : ℕ). pair_at (v.second + 8 * j) b) z ∙ d.pair in
        let n : c.last - c.at ≡ 0 = omega arith in
        let t = ends_at c.at c.rank a.e a.v v.cells a.at-fits (reached_small b v v.words c 1 q) d.cell l.end most l.here (rw n at l.run) l.empties in
        let t0 = t.0 in
        let t1 = t.1 in
        let e = a.cells u in
        let w = a.empty u in
        let g = l.end in
        let long = i.long in
        let second = i.second in
        let count = a.count in
        record {
          some = d.some;
          ended = k.0;
          cells = rw x (omega arith);
          ranks = rw x (omega arith);
          below = omega arith;
          base = a.base-fits;
          used = k.1;
          next = k.2;
          few = i.seconds;
          small = i.high;
          long = omega arith;
          follow = λ t p.
              wider v.cells most _ _ _
              (follow_at b v.second v.step v.cells (add32 c.base 1) t (c.next - 1) (v.step - c.used) a.e a.a a.xs d.pair e d.cell a.good a.fit
              (rw y a.entries) (omega arith) (omega arith));
        }
      where
        wider : (B : ℕ) → B ≤ 16777216 → (n : ℕ) (x y : Pair) → Follow B n x y → Follow 16777216 n x y
        wider B k n x y f = let t = f.most in record { empty = f.empty; stored = f.stored; most = omega arith }
