-- How many ranks of a run are left from a rank on: they stand at cells that follow one another. Assumes nothing.
use Rattle.std.proofs.Common.{◌≡◌, ℕ, suc, ◌+◌, ◌-◌, ◌<◌, ◌≤◌, ltb, List, [], ◌∷◌, ◌++◌, length, get_or, ◌∙◌, arith, length-append, get_or-append-add, ltb-false, ltb-true}
use lib.ListN.{get_or-append}
use Rattle.format.specs.Tools.{range}
use Rattle.format.specs.Runs.{Span, positions_from}
use Rattle.format.specs.PagedRuns.{plus, stored_cells, Place, lost, at}
use Rattle.laws.proofs.Tools.{cases, length-range}
use Rattle.laws.proofs.Search.{seek_from, Proper}
use Rattle.levels.proofs.Bounded.{cells_of}
use Rattle.parts.proofs.Places.{get_or_range}

-- the place of the rank q among positions: the ranks of its run from there on stand one cell after the other; its run has fewer than M cells
abbrev pub RunAt : ℕ → ℕ → List ℕ → Place → Type 0
RunAt M q ls (lost a) = length ls ≤ q
RunAt M q ls (at i t c x) =
    (t < stored_cells x) × (x.empty ≤ x.cells) × (x.cells < M) × (q + (stored_cells x - t) ≤ length ls)
    × ((k : ℕ) → k < stored_cells x - t → get_or ls (q + k) 0 ≡ c.cells + x.empty + t + k)

-- past a stretch of n positions
past : (M q s n : ℕ) (ls : List ℕ) (p : Place) → n ≤ q → RunAt M (q - n) ls p → RunAt M q (range s n ++ ls) p
past M q s n ls (lost c) h w = let a = length-append (range s n) ls in let l = length-range s n in omega arith
past M q s n ls (at i t c x) h w =
    let a = length-append (range s n) ls in
    let l = length-range s n in
    let w3 = w.3 in (
      w.0,
      w.1,
      w.2,
      omega arith,
      λ k g.
          let e : q + k ≡ length (range s n) + (q - n + k) = omega arith in
          rw e (get_or-append-add (range s n) ls (q - n + k) 0 ∙ w.4 k g),
    )

pub run_along : (M i q : ℕ) (a : Span) (xs : List Span) → Proper xs → cells_of xs < M → RunAt M q (positions_from a.cells xs) (seek_from stored_cells i q a xs)
unfolding positions_from seek_from cells_of
run_along M i q a [] o m = omega arith
run_along M i q a (x ∷ xs) o m =
    let o0 = o.0 in
    let later = positions_from (a.cells + x.cells) xs in
    let r = range (a.cells + x.empty) (x.cells - x.empty) in
    let l = length-append r later in
    let s = length-range (a.cells + x.empty) (x.cells - x.empty) in
    cases (ltb q (x.cells - x.empty))
    (λ e.
    let t = ltb-true q (x.cells - x.empty) e in
    rw e (
      t,
      o0,
      omega arith,
      omega arith,
      λ k g.
          let h : q + k < length r = omega arith in
          get_or-append r later 0 (q + k) h ∙ get_or_range (a.cells + x.empty) (x.cells - x.empty) (q + k) (omega arith) ∙ omega arith,
    ))
    (λ e.
    let t = ltb-false q (x.cells - x.empty) e in
    rw e
    (past M q (a.cells + x.empty) (x.cells - x.empty) later
    (seek_from stored_cells (suc i) (q - (x.cells - x.empty)) (plus a x) xs) t (run_along M (suc i) (q - (x.cells - x.empty)) (plus a x) xs o.1 (omega arith))))
