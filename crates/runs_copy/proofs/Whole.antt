-- Over parts that hold stored positions, whole runs: each has a stored cell, ends below the cells, and begins with an empty cell after the run before; the walk along them.
-- Assumes nothing.
use Rattle.std.proofs.Common.{◌≡◌, ℕ, zero, suc, ◌+◌, ◌-◌, ◌*◌, ◌<◌, ◌≤◌, ltb, leb, List, [], ◌∷◌, length, sym, refl, ap, ◌∙◌, le_refl, add-zero, arith, ltb-false, ltb-true, le-ltb, leb-true}
use Rattle.format.specs.declared.View.{View}
use Rattle.format.specs.Runs.{Run, runs, flat_runs, runs_kind}
use Rattle.laws.proofs.Tools.{cases, both_true}
use Rattle.laws.proofs.RunsBack.{InOrder', runs-ordered}
use Rattle.parts.specs.declared.Cursor.{Cursor}
use Rattle.wire.specs.Wire.{add32}
use Rattle.parts.specs.Cursor.{before, along_run, along_by, stepped_as}
use Rattle.parts.specs.Holds.{Holds}
use Rattle.parts.proofs.Places.{rising-below}
use Rattle.parts.proofs.Steps.{add32-small}
use Rattle.parts.proofs.Entries.{Entries, rest_pairs}
use Rattle.parts.proofs.Batches.{stepped_as_add}
use Rattle.parts.proofs.Along.{past-along}
use Rattle.run_search.specs.Before.{last_at, empty_at, ranks_before}
use Rattle.run_walk.specs.Steps.{entered, next}
use Rattle.runs_copy.specs.Copy.{at_run, at_end}
use Rattle.run_walk.proofs.Body.{held}
use Rattle.runs.proofs.Lookup.{told, count, in_run, at-rank, ranks}
use Rattle.run_walk.proofs.Walk.{next-along}

-- run i + k + 1 of the file has more empty cells before it than the run before
more_among : (b : List ℕ) (s : ℕ) (rs : List Run) (i e v k : ℕ) → InOrder' e v rs → Entries b 4 s (2 * i) (flat_runs rs) → suc k < length rs
    → empty_at b s (i + k) < empty_at b s (suc (i + k))
more_among b s [] i e v k o es h = absurd (omega arith)
more_among b s (x ∷ []) i e v k o es h = absurd (omega arith)
more_among b s (x ∷ y ∷ ys) i e v zero o es h =
    let t = (told b s i x (y ∷ ys) es).1 in
    let u = (told b s (suc i) y ys (rest_pairs b s i x.last x.empty (flat_runs (y ∷ ys)) (unfold flat_runs in es))).1 in
    let l = o.2.0 in
    rw (add-zero i, t, u) (omega arith)
more_among b s (x ∷ y ∷ ys) i e v (suc k) o es h =
    let m : i + suc k ≡ suc i + k = omega arith in
    rw m (more_among b s (y ∷ ys) (suc i) (suc x.last) x.empty k o.2 (rest_pairs b s i x.last x.empty (flat_runs (y ∷ ys)) (unfold flat_runs in es)) (omega arith))

-- run i, with the first rank R_i
pub record WholeRun (b : List ℕ) (v : View) (i : ℕ) : Type 0 where
  pub some : ranks_before b v.start i + empty_at b v.start i ≤ last_at b v.start i
  pub below : last_at b v.start i < 16777216
  pub after : ranks_before b v.start (suc i) ≡ last_at b v.start i + 1 - empty_at b v.start i
  pub apart : suc i < v.firsts → empty_at b v.start i < empty_at b v.start (suc i)

module _ (b : List ℕ) (v : View) (ls : List ℕ) (h : Holds (runs_kind v.width v.step) b v ls) where
  pub whole_run : (i : ℕ) → i < v.firsts → WholeRun b v i
  unfolding ranks_before
  whole_run i k =
      let l = last_at b v.start i in
      let y = empty_at b v.start i in
      let s = (in_run b v ls h i k).some in
      let m = (in_run b v ls h i k).most in
      let a = at-rank b v ls h i (l - y) k (omega arith) (omega arith) in
      let f = rising-below 0 v.cells ls (l - y) h.rising (omega arith) in
      let c = h.counted.cells-most in
      let n = count b v ls h in
      let z : 0 + i ≡ i = omega arith in
      record {
        some = s;
        below = omega arith;
        after = omega arith;
        apart = λ q.
            rw z at (more_among b v.start (runs ls) 0 0 0 i (runs-ordered 0 v.cells ls h.rising) (held b v ls h) (omega arith));
      }

  pub few-runs : v.firsts ≤ 16777216
  unfolding runs_kind
  few-runs =
      let c = h.counted.cells-most in
      let w = h.counted.words-most in
      let f = leb-true v.firsts v.words (both_true (leb v.firsts v.words) _ h.counted.counts).0 in
      omega arith

  pub words-before : ranks_before b v.start v.firsts ≡ v.words
  words-before = ranks b v ls h ∙ h.size

  -- each run has a rank more at least
  pub ranks-next : (i : ℕ) → i < v.firsts → ranks_before b v.start i < ranks_before b v.start (suc i)
  ranks-next i k =
      let w = whole_run i k in
      let s = w.some in
      let a = w.after in
      omega arith

-- ---- the cursor in a run

-- the cursor stands at a stored cell of run i
pub record InRunAt (b : List ℕ) (v : View) (c : Cursor) (i : ℕ) : Type 0 where
  pub less : i < v.firsts
  pub next : c.next ≡ suc i
  pub at : c.at ≡ c.rank + empty_at b v.start i
  pub last : c.last ≡ last_at b v.start i
  pub low : ranks_before b v.start i ≤ c.rank
  pub high : c.at ≤ last_at b v.start i

-- the cursor c at the last cell of run i
abbrev at_last : List ℕ → View → Cursor → ℕ → Cursor
at_last b v c i = at_end c (last_at b v.start i) (empty_at b v.start i) (suc i)

module _ (b : List ℕ) (v : View) (ls : List ℕ) (h : Holds (runs_kind v.width v.step) b v ls) where
  -- one step from the last cell of a run
  pub step_on : (c : Cursor) (i : ℕ) → i < v.firsts → next b v (at_end c (last_at b v.start i) (empty_at b v.start i) (suc i)) ≡ at_run b v c (suc i)
  unfolding next entered at_end at_run
  step_on c i k =
      let w = whole_run b v ls h i k in
      let s = w.some in
      let a = w.after in
      let l = w.below in
      let n = few-runs b v ls h in
      let r : add32 (last_at b v.start i - empty_at b v.start i) 1 ≡ ranks_before b v.start (suc i)
      = add32-small (last_at b v.start i - empty_at b v.start i) 1 (omega arith) ∙ omega arith in
      let m : add32 (suc i) 1 ≡ suc (suc i) = add32-small (suc i) 1 (omega arith) ∙ omega arith in
      rw (le-ltb (last_at b v.start i) (last_at b v.start i) (le_refl _), r, m)

  along-last : (c : Cursor) (i : ℕ) → InRunAt b v c i → along_by (last_at b v.start i - c.at) c ≡ at_last b v c i
  unfolding along_by at_end
  along-last c i s =
      let w = whole_run b v ls h i s.less in
      let l = w.below in
      let a = s.at in
      let g = s.high in
      let r : add32 c.rank (last_at b v.start i - c.at) ≡ last_at b v.start i - empty_at b v.start i = add32-small c.rank _ (omega arith) ∙ omega arith in
      let p : add32 c.at (last_at b v.start i - c.at) ≡ last_at b v.start i = add32-small c.at _ (omega arith) ∙ omega arith in
      rw (r, p, s.next, s.last)

  -- through the rest of the run, to the first cell of the next
  pub to_next : (c : Cursor) (i : ℕ) → InRunAt b v c i → stepped_as (next b v) c (last_at b v.start i - c.at + 1) ≡ at_run b v c (suc i)
  to_next c i s =
      let l = (whole_run b v ls h i s.less).below in
      let a = s.at in
      let g = s.high in
      let e = s.last in
      sym (past-along (next b v) (next-along b v) (last_at b v.start i - c.at) c (omega arith) (omega arith) (omega arith))
      ∙ ap (next b v) (along-last c i s) ∙ step_on c i s.less

  -- at the first cell of a run
  pub at-rank-before : (c : Cursor) (i : ℕ) → (at_run b v c i).rank ≡ ranks_before b v.start i
  unfolding at_run
  at-rank-before c i = refl

  pub at_first : (c : Cursor) (i : ℕ) → i < v.firsts → InRunAt b v (at_run b v c i) i
  unfolding at_run
  at_first c i k =
      let w = whole_run b v ls h i k in
      let s = w.some in
      let l = w.below in
      let a : add32 (ranks_before b v.start i) (empty_at b v.start i) ≡ ranks_before b v.start i + empty_at b v.start i = add32-small _ _ (omega arith) in
      record { less = k; next = refl; at = a; last = refl; low = le_refl _; high = rw a s }

-- ---- from before rank 0

-- the cursor stands at rank r
pub record Stands (b : List ℕ) (v : View) (c : Cursor) (r : ℕ) : Type 0 where
  pub run : ℕ
  pub rank : c.rank ≡ r
  pub there : InRunAt b v c run

module _ (b : List ℕ) (v : View) (ls : List ℕ) (h : Holds (runs_kind v.width v.step) b v ls) where
  begins : next b v before ≡ at_run b v before 0
  unfolding next entered at_run ranks_before add32
  begins = refl

  no_ranks : ranks_before b v.start 0 ≡ 0
  unfolding ranks_before
  no_ranks = refl

  stand_first : 0 < v.words → Stands b v (next b v before) 0
  stand_first k =
      let w = words-before b v ls h in
      let s : 0 < v.firsts = positive v.firsts w in
      rw begins (record { run = 0; rank = at-rank-before b v ls h before 0 ∙ no_ranks; there = at_first b v ls h before 0 s })
    where
      positive : (n : ℕ) → ranks_before b v.start n ≡ v.words → 0 < n
      positive zero e = let z = no_ranks in absurd (omega arith)
      positive (suc n) e = omega arith

  stand_along : (c : Cursor) (r : ℕ) → c.at < c.last → Stands b v c r → Stands b v (along_run c) (suc r)
  unfolding along_run
  stand_along c r m s =
      let t = s.there in
      let e = s.rank in
      let a = t.at in
      let o = t.last in
      let f = t.low in
      let l = (whole_run b v ls h s.run t.less).below in
      let z : add32 c.rank 1 ≡ suc r = add32-small c.rank 1 (omega arith) ∙ omega arith in
      record {
        run = s.run;
        rank = z;
        there = record { less = t.less; next = t.next; at = omega arith; last = o; low = omega arith; high = omega arith };
      }

  -- behind a rank that is not the last, there is a run
  further : (i r : ℕ) → i < v.firsts → ranks_before b v.start (suc i) ≡ r → r < v.words → suc i < v.firsts
  further i r k y l =
      cases (ltb (suc i) v.firsts) (λ t. ltb-true (suc i) v.firsts t)
      (λ t.
      let m = ltb-false (suc i) v.firsts t in
      let z : v.firsts ≡ suc i = omega arith in
      let w : ranks_before b v.start (suc i) ≡ v.words = ap (ranks_before b v.start) (sym z) ∙ words-before b v ls h in
      absurd (omega arith))

  one-step : (c : Cursor) → stepped_as (next b v) c 1 ≡ next b v c
  unfolding stepped_as
  one-step c = refl

  stand_on : (c : Cursor) (r : ℕ) → c.last ≤ c.at → suc r < v.words → Stands b v c r → Stands b v (next b v c) (suc r)
  stand_on c r m k s =
      let i = s.run in
      let t = s.there in
      let w = whole_run b v ls h i t.less in
      let e = s.rank in
      let a = t.at in
      let g = t.high in
      let o = t.last in
      let f = w.after in
      let n : last_at b v.start i - c.at + 1 ≡ 1 = omega arith in
      let u : next b v c ≡ at_run b v c (suc i) = sym (one-step c) ∙ rw n at (to_next b v ls h c i t) in
      let y : ranks_before b v.start (suc i) ≡ suc r = omega arith in
      rw u (record { run = suc i; rank = at-rank-before b v ls h c (suc i) ∙ y; there = at_first b v ls h c (suc i) (further i (suc r) t.less y k) })

  stand_next : (c : Cursor) (r : ℕ) → suc r < v.words → Stands b v c r → Stands b v (next b v c) (suc r)
  stand_next c r k s =
      cases (ltb c.at c.last)
      (λ q. let m = ltb-true c.at c.last q in rw (next-along b v c m) (stand_along c r m s))
      (λ q. stand_on c r (ltb-false c.at c.last q) k s)

  pub stands : (r : ℕ) → r < v.words → Stands b v (stepped_as (next b v) before (suc r)) r
  stands zero k = rw (one-step before) (stand_first k)
  stands (suc r) k =
      let z : suc (suc r) ≡ suc r + 1 = omega arith in
      let o : stepped_as (next b v) before (suc (suc r)) ≡ next b v (stepped_as (next b v) before (suc r))
      = ap (stepped_as (next b v) before) z ∙ stepped_as_add (next b v) before (suc r) 1 ∙ one-step _ in
      rw o (stand_next _ r k (stands r (omega arith)))
