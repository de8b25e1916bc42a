-- Over parts that hold stored positions: where run j stands among them, and what the searches find. Assumes nothing.
use Rattle.std.proofs.Common.{◌≡◌, ℕ, zero, suc, ◌+◌, ◌-◌, ◌*◌, ◌^◌, ◌<◌, ◌≤◌, false, ltb, List, [], ◌∷◌, ◌++◌, length, get_or, sym, refl, ap, ◌∙◌, add-zero, arith, length-append, get_or-append-add, ltb-false, ltb-true, lt-ltb}
use lib.ListN.{get_or-append}
use Rattle.format.specs.declared.View.{View}
use Rattle.format.specs.Tools.{range}
use Rattle.format.specs.Runs.{Run, runs, spans_from, spans, positions_from, flat_runs, run_parts, runs_kind}
use Rattle.laws.proofs.Tools.{cases, length-range}
use Rattle.laws.proofs.Positions.{runs-back}
use Rattle.laws.proofs.Ranks.{InOrder, in_order}
use Rattle.wire.specs.declared.Pair.{Pair}
use Rattle.parts.specs.declared.Found.{Found}
use Rattle.parts.specs.declared.RunPart.{RunPart}
use Rattle.parts.specs.Holds.{Holds}
use Rattle.parts.specs.Found.{FoundAmong, PartOf}
use Rattle.parts.proofs.Places.{get_or_range, rising-below, found_here, found_gap}
use Rattle.parts.proofs.Entries.{Entries, first-pair, rest_pairs}
use Rattle.parts.specs.Last.{Ascending, LastAtMost}
use Rattle.parts.proofs.Last.{ascending_by}
use Rattle.run_search.specs.Before.{last_at, empty_at, cells_before, ranks_before, LastRun}
use Rattle.run_walk.proofs.Body.{inside, held}
use Rattle.run_search.proofs.Before.{few-ranks}

-- A run with the pair l and y, after g cells, whose first rank is f, among positions ls, the first of which has the rank o: it has a stored cell, and its positions
-- stand in ls.
pub record InRun (g f l y o : ℕ) (ls : List ℕ) : Type 0 where
  after : g ≤ l
  low : o ≤ f
  pub some : f + y ≤ l
  pub most : l < o + length ls + y
  at : (r : ℕ) → f ≤ r → r + y ≤ l → get_or ls (r - o) 0 ≡ r + y

-- the first run with rank r or a later one
pub record FirstWith (b : List ℕ) (v : View) (r j : ℕ) : Type 0 where
  pub most : j ≤ v.firsts
  pub begins : ranks_before b v.start j ≤ r
  pub holds : j < v.firsts → r + empty_at b v.start j ≤ last_at b v.start j

-- the first run, after e cells of which v are empty
first_run : (e v : ℕ) (x : Run) (ys : List ℕ) → v ≤ e → v ≤ x.empty → e + (x.empty - v) ≤ x.last
    → InRun e (e - v) x.last x.empty (e - v) (range (e + (x.empty - v)) (suc x.last - e - (x.empty - v)) ++ ys)
first_run e v x ys g k o =
    let xs : List ℕ = range (e + (x.empty - v)) (suc x.last - e - (x.empty - v)) in
    let n : length xs ≡ suc x.last - e - (x.empty - v) = length-range _ _ in
    record {
      after = omega arith;
      low = omega arith;
      some = omega arith;
      most = rw (length-append xs ys) (omega arith);
      at = λ r h q.
          get_or-append xs ys 0 (r - (e - v)) (omega arith)
          ∙ get_or_range (e + (x.empty - v)) (suc x.last - e - (x.empty - v)) (r - (e - v)) (omega arith)
          ∙ omega arith;
    }

-- a later run
later_run : (g f l y o m : ℕ) (xs ys : List ℕ) → o + length xs ≡ m → InRun g f l y m ys → InRun g f l y o (xs ++ ys)
later_run g f l y o m xs ys e i =
    let a = i.low in
    let z = i.most in
    record {
      after = i.after;
      low = omega arith;
      some = i.some;
      most = rw (length-append xs ys) (omega arith);
      at = λ r h q. let k : r - o ≡ length xs + (r - m) = omega arith in rw k (get_or-append-add xs ys (r - m) 0 ∙ i.at r h q);
    }

-- positions from the first run on
split : (e v : ℕ) (x : Run) (xs : List Run) → e + (x.empty - v) ≤ x.last
    → positions_from e (spans_from e v (x ∷ xs))
    ≡ range (e + (x.empty - v)) (suc x.last - e - (x.empty - v)) ++ positions_from (suc x.last) (spans_from (suc x.last) x.empty xs)
unfolding positions_from spans_from
split e v x xs h = let g : e + (suc x.last - e) ≡ suc x.last = omega arith in rw g

module _ (b : List ℕ) (s : ℕ) where
  -- the first of the runs is read
  pub told : (i : ℕ) (x : Run) (xs : List Run) → Entries b 4 s (2 * i) (flat_runs (x ∷ xs)) → (last_at b s i ≡ x.last) × (empty_at b s i ≡ x.empty)
  unfolding flat_runs
  told i x xs es = let t = first-pair b s i x.last x.empty (flat_runs xs) es in (ap (λ (p : Pair). p.first) t, ap (λ (p : Pair). p.second) t)

  next-ranks : (i : ℕ) (x : Run) (xs : List Run) → Entries b 4 s (2 * i) (flat_runs (x ∷ xs)) → ranks_before b s (suc i) ≡ suc x.last - x.empty
  unfolding ranks_before
  next-ranks i x xs es = let t = told i x xs es in rw (t.0, t.1)

  next-cells : (i : ℕ) (x : Run) (xs : List Run) → Entries b 4 s (2 * i) (flat_runs (x ∷ xs)) → cells_before b s (suc i) ≡ suc x.last
  unfolding cells_before
  next-cells i x xs es = rw (told i x xs es).0

  -- run k of rs, which is run i + k of the file
  run-among : (rs : List Run) (i e v k : ℕ) → InOrder e v rs → v ≤ e → cells_before b s i ≡ e → ranks_before b s i ≡ e - v → Entries b 4 s (2 * i) (flat_runs rs)
      → k < length rs
      → InRun (cells_before b s (i + k)) (ranks_before b s (i + k)) (last_at b s (i + k)) (empty_at b s (i + k)) (e - v) (positions_from e (spans_from e v rs))
  run-among [] i e v k o g z q es h = absurd (omega arith)
  run-among (x ∷ xs) i e v zero o g z q es h =
      let t = told i x xs es in
      rw (add-zero i, z, q, t.0, t.1, split e v x xs o.1) (first_run e v x _ g o.0 o.1)
  run-among (x ∷ xs) i e v (suc k) o g z q es h =
      let o0 = o.0 in
      let o1 = o.1 in
      let m : i + suc k ≡ suc i + k = omega arith in
      let n = length-range (e + (x.empty - v)) (suc x.last - e - (x.empty - v)) in
      rw (m, split e v x xs o1)
      (later_run _ _ _ _ (e - v) (suc x.last - x.empty) (range (e + (x.empty - v)) (suc x.last - e - (x.empty - v))) _ (omega arith)
      (run-among xs (suc i) (suc x.last) x.empty k o.2 (omega arith) (next-cells i x xs es) (next-ranks i x xs es)
      (rest_pairs b s i x.last x.empty (flat_runs xs) (unfold flat_runs in es)) (omega arith)))

  -- all the stored cells
  all-ranks : (rs : List Run) (i e v : ℕ) → InOrder e v rs → v ≤ e → ranks_before b s i ≡ e - v → Entries b 4 s (2 * i) (flat_runs rs)
      → ranks_before b s (i + length rs) ≡ e - v + length (positions_from e (spans_from e v rs))
  all-ranks [] i e v o g q es = rw (add-zero i) (unfold positions_from spans_from in omega arith)
  all-ranks (x ∷ xs) i e v o g q es =
      let o0 = o.0 in
      let o1 = o.1 in
      let m : i + suc (length xs) ≡ suc i + length xs = omega arith in
      let n = length-range (e + (x.empty - v)) (suc x.last - e - (x.empty - v)) in
      let ys : List ℕ = positions_from (suc x.last) (spans_from (suc x.last) x.empty xs) in
      let z = all-ranks xs (suc i) (suc x.last) x.empty o.2 (omega arith) (next-ranks i x xs es)
      (rest_pairs b s i x.last x.empty (flat_runs xs) (unfold flat_runs in es)) in
      rw (m, split e v x xs o1, length-append (range (e + (x.empty - v)) (suc x.last - e - (x.empty - v))) ys) (omega arith)

-- ---- over parts that hold ls

module _ (b : List ℕ) (v : View) (ls : List ℕ) (h : Holds (runs_kind v.width v.step) b v ls) where
  back : positions_from 0 (spans_from 0 0 (runs ls)) ≡ ls
  unfolding spans
  back = runs-back 0 v.cells ls h.rising

  pub count : length (runs ls) ≡ v.firsts
  unfolding runs_kind run_parts
  count = h.first_count_lem

  none : (cells_before b v.start 0 ≡ 0) × (ranks_before b v.start 0 ≡ 0)
  unfolding cells_before ranks_before
  none = (refl, refl)

  pub in_run : (j : ℕ) → j < v.firsts
      → InRun (cells_before b v.start j) (ranks_before b v.start j) (last_at b v.start j) (empty_at b v.start j) 0 ls
  in_run j k =
      let c = count in
      let z : 0 + j ≡ j = omega arith in
      rw (z, back) at
      (run-among b v.start (runs ls) 0 0 0 j (in_order 0 v.cells ls h.rising) (omega arith) none.0 none.1 (held b v ls h) (omega arith))

  -- the position of a rank in run j
  pub at-rank : (j r : ℕ) → j < v.firsts → ranks_before b v.start j ≤ r → r + empty_at b v.start j ≤ last_at b v.start j
      → get_or ls r 0 ≡ r + empty_at b v.start j
  at-rank j r k f e = let z : r - 0 ≡ r = omega arith in rw z at ((in_run j k).at r f e)

  pub ranks : ranks_before b v.start v.firsts ≡ length ls
  ranks =
      let c = count in
      let z : 0 + length (runs ls) ≡ v.firsts = omega arith in
      rw (z, back) at (all-ranks b v.start (runs ls) 0 0 0 (in_order 0 v.cells ls h.rising) (omega arith) none.1 (held b v ls h))
      ∙ omega arith

  -- each run has more cells before it, and more stored ones, than the run before
  cells-rise : Ascending (cells_before b v.start) (suc v.firsts)
  unfolding cells_before
  cells-rise = ascending_by (cells_before b v.start) (suc v.firsts) (λ i k. let a = (in_run i (omega arith)).after in omega arith)

  ranks-rise : Ascending (ranks_before b v.start) (suc v.firsts)
  unfolding ranks_before
  ranks-rise = ascending_by (ranks_before b v.start) (suc v.firsts) (λ i k. let a = (in_run i (omega arith)).some in omega arith)

  module _ (p j : ℕ) (g : LastRun (cells_before b v.start) b v.start v.firsts p j) where
    last : LastAtMost (cells_before b v.start) (suc v.firsts) p j
    last = g.last (inside b v h.counted).long

    ended : 0 < j → cells_before b v.start j ≤ p
    ended k = last.low cells-rise k

    reached : j < v.firsts → p ≤ last_at b v.start j
    unfolding cells_before
    reached k = let l : p < cells_before b v.start (suc j) = last.high cells-rise (suc j) (omega arith) (omega arith) in omega arith

    -- a position has at least as many cells before it as its run has stored ones
    pub not-above : ranks_before b v.start j ≤ p
    not-above =
        let f = few-ranks b v.start j in
        cases (ltb 0 j)
        (λ t. let c = ended (ltb-true 0 j t) in omega arith)
        (λ t. let z : j ≡ 0 = let k = ltb-false 0 j t in omega arith in rw z (let n = none.1 in omega arith))

    -- the last rank before run j stands at L_(j-1), below p
    low : 1 ≤ ranks_before b v.start j → get_or ls (ranks_before b v.start j - 1) 0 < p
    unfolding cells_before ranks_before
    low r = below j g.most ended r
      where
        below : (j : ℕ) → j ≤ v.firsts → (0 < j → cells_before b v.start j ≤ p) → 1 ≤ ranks_before b v.start j
            → get_or ls (ranks_before b v.start j - 1) 0 < p
        below zero k f r = absurd (omega arith)
        below (suc j) k f r =
            let l = last_at b v.start j in
            let y = empty_at b v.start j in
            let q : suc l ≤ p = f (omega arith) in
            let o = (in_run j (omega arith)).some in
            let a = at-rank j (suc l - y - 1) (omega arith) (omega arith) (omega arith) in
            omega arith

    module _ (f : Found) where
      -- after the last run
      pub found-end : v.firsts ≤ j → f.below ≡ v.words → f.here ≡ false → FoundAmong p ls f
      found-end k q t =
          let m = g.most in
          let z = h.size in
          let e : ranks_before b v.start j ≡ v.words = ap (ranks_before b v.start) (omega arith) ∙ ranks ∙ z in
          found_gap v.cells p ls h.rising v.words (omega arith) (λ r. rw (← e) (low (omega arith))) (λ r. absurd (omega arith)) f q t

      module _ (k : j < v.firsts) where
        -- an empty cell of run j
        pub found-empty : p < ranks_before b v.start j + empty_at b v.start j → f.below ≡ ranks_before b v.start j → f.here ≡ false → FoundAmong p ls f
        found-empty l q t =
            let i = in_run j k in
            let o = i.some in
            let m = i.most in
            let a = at-rank j (ranks_before b v.start j) k (omega arith) o in
            found_gap v.cells p ls h.rising (ranks_before b v.start j) (omega arith) low (λ r. omega arith) f q t

        -- a stored one
        pub found-stored : ranks_before b v.start j + empty_at b v.start j ≤ p → f.below ≡ p - empty_at b v.start j
            → f.here ≡ ltb f.below v.words → FoundAmong p ls f
        found-stored l q t =
            let e = reached k in
            let m = (in_run j k).most in
            let n = h.size in
            let a = at-rank j (p - empty_at b v.start j) k (omega arith) (omega arith) in
            found_here v.cells p ls h.rising (p - empty_at b v.start j) (omega arith) (omega arith) f q (t ∙ lt-ltb f.below v.words (omega arith))

  module _ (r j : ℕ) (g : LastRun (ranks_before b v.start) b v.start v.firsts r j) where
    last-ranks : LastAtMost (ranks_before b v.start) (suc v.firsts) r j
    last-ranks = g.last (inside b v h.counted).long

    pub first_with : FirstWith b v r j
    unfolding ranks_before
    first_with =
        record {
          most = g.most;
          begins =
              cases (ltb 0 j)
              (λ t. last-ranks.low ranks-rise (ltb-true 0 j t))
              (λ t. let z : j ≡ 0 = let k = ltb-false 0 j t in omega arith in rw z (omega arith));
          holds = λ k. let s : r < ranks_before b v.start (suc j) = last-ranks.high ranks-rise (suc j) (omega arith) (omega arith) in omega arith;
        }

    -- a rank of a stored word is in a run
    in_runs : r < v.words → j < v.firsts
    in_runs k =
        let a = first_with.begins in
        let m = g.most in
        let n = h.size in
        cases (ltb j v.firsts)
        (λ t. ltb-true j v.firsts t)
        (λ t.
        let u = ltb-false j v.firsts t in
        let e : ranks_before b v.start j ≡ length ls = ap (ranks_before b v.start) (omega arith) ∙ ranks in
        absurd (omega arith))

    pub position : r < v.words → r + empty_at b v.start j ≡ get_or ls r 0
    position k = let u = in_runs k in sym (at-rank j r u first_with.begins (first_with.holds u))

    -- the last cell of a run is the position of its last rank
    last-below : j < v.firsts → last_at b v.start j < v.cells
    last-below u =
        let i = in_run j u in
        let o = i.some in
        let m = i.most in
        let a = at-rank j (last_at b v.start j - empty_at b v.start j) u (omega arith) (omega arith) in
        let z = rising-below 0 v.cells ls (last_at b v.start j - empty_at b v.start j) h.rising (omega arith) in
        omega arith

    -- the ranks from r on to the end of run j
    pub run_part : r < v.words → (f : RunPart) → f.at ≡ r + empty_at b v.start j
        → (f.at ≤ last_at b v.start j → last_at b v.start j + 1 < 2 ^ 32 → f.at + f.cells ≡ last_at b v.start j + 1) → PartOf ls r f
    run_part k f e n =
        let u = in_runs k in
        let a = first_with.begins in
        let l = first_with.holds u in
        let m = (in_run j u).most in
        let z = last-below u in
        let y = h.counted.cells-most in
        let q = n (omega arith) (omega arith) in
        record {
          some = omega arith;
          inside = omega arith;
          along = λ i s. let t = at-rank j (r + i) u (omega arith) (omega arith) in omega arith;
        }
