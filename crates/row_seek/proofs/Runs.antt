-- Along the runs of an accepted file: what a cursor knows of its run gives the ranks of the cells ahead. Assumes nothing.
use Prim.Native.Nat.{ℕ, zero, suc, ◌+◌, ◌-◌, ◌≤◌, ◌<◌}
use mathlib.Core.Path.{◌≡◌, refl, sym, ◌∙◌}
use mathlib.Core.List.{List}
use native.Mathlib.Nat.{add-zero, lt_of_not-le}
use native.Mathlib.Decide.{dec_le}
use native.Mathlib.Numerals.{add-one}
use native.Mathlib.Omega.{arith}
use lib.ListN.{length, get_or, take}
use Rattle.format.specs.declared.View.{View}
use Rattle.format.specs.Tools.{Below}
use Rattle.format.specs.Answers.{given}
use Rattle.format.specs.Accepted.{positions_of}
use Rattle.parts.specs.declared.Cursor.{Cursor}
use Rattle.parts.specs.declared.RunPart.{RunPart}
use Rattle.parts.specs.Found.{PartOf}
use Rattle.parts.specs.Holds.{ViewOf}
use Rattle.parts.proofs.Places.{rising-below, rising_lt}
use Rattle.parts.proofs.Seen.{seen}
use Rattle.kinds.specs.Steps.{stores_runs}
use Rattle.kinds.proofs.None.{never}
use Rattle.search.specs.Searched.{RankSearched}
use Rattle.row_seek.specs.Ready.{known_run, Ready, Reached, Stands}
use Rattle.row_seek.proofs.Resumed.{runs_no_walk, passed-at, sought-here}

-- ---- a part of a run

-- its first rank
part_first : (ls : List ℕ) (r : ℕ) (f : RunPart) → PartOf ls r f → get_or ls r 0 ≡ f.at
part_first ls r f q = let z : r + 0 ≡ r = add-zero r in rw z at (q.along 0 q.some) ∙ add-zero f.at

-- what is left of it m ranks later
pub part_later : (ls : List ℕ) (r s m : ℕ) (f g : RunPart) → PartOf ls r f → m < f.cells → s ≡ r + m → g.at ≡ f.at + m → g.cells + m ≡ f.cells
    → PartOf ls s g
part_later ls r s m f g q h e a n =
    let i = q.inside in
    record {
      some = omega arith;
      inside = omega arith;
      along = λ j k. let z : s + j ≡ r + (m + j) = omega arith in rw z (q.along (m + j) (omega arith) ∙ omega arith);
    }

-- ---- of an accepted file

module _ (b : List ℕ) (v : View) (o : ViewOf b v) where
  abbrev ls : List ℕ
  ls = positions_of b

  size : length ls ≡ v.words
  size = (seen b v o).holds.size

  -- it ends inside the cells
  pub part_small : (r : ℕ) (f : RunPart) → PartOf ls r f → f.at + f.cells ≤ 16777216
  part_small r f q =
      let s = q.some in
      let i = q.inside in
      let a = q.along (f.cells - 1) (omega arith) in
      let z = rising-below 0 v.cells ls (r + (f.cells - 1)) (seen b v o).holds.rising (omega arith) in
      let m = (seen b v o).header.counted.cells-most in
      omega arith

  -- the ranks before r stand below its position
  passed-before : (r : ℕ) → r < v.words → Below (get_or ls r 0) (take r ls)
  passed-before zero k = tt
  passed-before (suc r) k =
      let n = size in
      rw (add-one r) at (passed-at b v o _ r (omega arith) (rising_lt 0 v.cells ls r (suc r) (seen b v o).holds.rising (omega arith) (omega arith)))

  module _ (s : stores_runs v.kind) where
    -- at a rank, the first from p on
    pub reached_at : (c : Cursor) (r p : ℕ) → Stands b v r c → r ≤ v.words → Below p (take r ls) → (r < v.words → p ≤ get_or ls r 0) → Reached b v c p
    reached_at c r p w n below past =
        let z = w.rank in
        record {
          ready = record {
            rank = omega arith;
            at = λ k. rw z (sym (part_first ls r (known_run c) (w.run (omega arith))));
            ahead = λ k. absurd (never (sym (runs_no_walk v.kind s) ∙ k));
            run = λ i k. rw z (w.run (omega arith));
            passed = rw z below;
          };
          past = λ k. rw (← part_first ls r (known_run c) (w.run (omega arith))) (past (omega arith));
        }

    module _ (c : Cursor) (p : ℕ) (y : Ready b v c p) (more : c.rank < v.words) where
      run : PartOf ls c.rank (known_run c)
      run = y.run s more

      pub run_small : c.at ≤ c.last × (c.last < 16777216)
      run_small = let q = run.some in let m = part_small c.rank (known_run c) run in (omega arith, omega arith)

      -- along the run to the cell q
      pub reached_along : (d : Cursor) (q : ℕ) → c.at ≤ q → q ≤ c.last → d.rank ≡ c.rank + (q - c.at) → d.at ≡ q → d.last ≡ c.last → Reached b v d q
      reached_along d q h k e a l =
          let w : PartOf ls d.rank (known_run d) = part_later ls c.rank d.rank (q - c.at) (known_run c) (known_run d) run (omega arith) e (omega arith) (omega arith) in
          let i = w.inside in
          let j = w.some in
          let n = size in
          let f : get_or ls d.rank 0 ≡ q = part_first ls d.rank (known_run d) w ∙ a in
          reached_at d d.rank q (record { rank = refl; run = λ _. w }) (omega arith) (rw f at (passed-before d.rank (omega arith))) (λ _. rw f (omega arith))

      -- the rank behind the run
      pub behind : (r : ℕ) → p ≡ c.last + 1 → r ≡ c.rank + (p - c.at) → (r ≤ v.words) × Below p (take r ls) × (r < v.words → p ≤ get_or ls r 0)
      behind r e z =
          let t = run_small.0 in
          let i = run.inside in
          let n = size in
          let m = c.last - c.at in
          let a = run.along m (omega arith) in
          let u : r ≡ c.rank + m + 1 = omega arith in (
            omega arith,
            rw u (passed-at b v o p (c.rank + m) (omega arith) (omega arith)),
            λ k. let l = rising_lt 0 v.cells ls (c.rank + m) r (seen b v o).holds.rising (omega arith) (omega arith) in omega arith,
          )

  -- ---- the cells ahead that are known to be stored

  module _ (c : Cursor) (p m : ℕ) (y : Ready b v c p) (more : c.rank < v.words) (e : c.at ≡ p) (h : 1 < m → stores_runs v.kind × (c.at + m ≤ c.last + 1)) where
    pub ranks-inside : c.rank + m ≤ v.words
    ranks-inside =
        elim (dec_le m 1) [
          | yes n ↦ omega arith
          | no n ↦
              let t = h (lt_of_not-le n) in
              let g = t.1 in
              let i = (run t.0 c p y more).inside in
              let z = size in
              omega arith
        ]

    pub sought-along : (i : ℕ) → i < m → p + i < v.cells → RankSearched b v (p + i) (given (c.rank + i))
    sought-along zero k l = rw (add-zero p, add-zero c.rank) (sought-here b v o c p y more (omega arith) e)
    sought-along (suc i) k l =
        let t = h (omega arith) in
        let g = t.1 in
        let d : Cursor = record { rank = c.rank + suc i; at = p + suc i; next = c.next; last = c.last; used = c.used; base = c.base; empty = c.empty } in
        let n = ranks-inside in
        let w = reached_along t.0 c p y more d (p + suc i) (omega arith) (omega arith) (omega arith) refl refl in
        sought-here b v o d (p + suc i) w.ready (omega arith) l refl
