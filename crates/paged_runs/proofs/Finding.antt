-- Over parts that hold stored positions the searches find the place among them. Assumes nothing.
use Rattle.std.proofs.Common.{◌≡◌, ℕ, ◌+◌, ◌-◌, ◌*◌, ◌^◌, ◌<◌, true, List, ◌∷◌, length, get_or, drop, sym, ap, ◌∙◌, arith, lt-ltb, le-leb}
use Rattle.format.specs.declared.View.{View}
use Rattle.format.specs.Answers.{given}
use Rattle.format.specs.Runs.{runs, spans, positions_from}
use Rattle.format.specs.PagedRuns.{none, upper_levels, levels, Place, lost, at, descent, position_at_place, stored_cells, pages_kind}
use Rattle.laws.proofs.Bounds.{length-level}
use Rattle.laws.proofs.Positions.{runs-back}
use Rattle.laws.proofs.Search.{seek_from, Proper, position_among, along-position}
use Rattle.laws.proofs.Descent.{descent_finds}
use Rattle.parts.specs.Holds.{Holds}
use Rattle.parts.specs.Found.{FoundAmong, FoundIn, PartOf}
use Rattle.parts.proofs.Places.{rising-below}
use Rattle.levels.specs.Levels.{entries, sizes_of, sizes_above, total, cut}
use Rattle.levels.specs.Comparing.{Inside}
use Rattle.descent.specs.declared.search.Asked.{Asked}
use Rattle.descent.specs.declared.search.Asked.TheVariants as ask
use Rattle.descent.specs.Descent.{for_rank, answered, descended, numbers_fit, searched}
use Rattle.descent.proofs.Counting.{high_half, low_half, exact, exact_add, exact_none, ranks-left, counts_descend}
use Rattle.levels.proofs.Cutting.{sizes_enough, Cut, cut-levels}
use Rattle.levels.proofs.Bounded.{cells_of, proper_runs, cells-runs}
use Rattle.paged_runs.proofs.Held.{inside, seconds_held, firsts_held, entries_held}
use Rattle.paged_runs.proofs.Left.{RunAt, run_along}
use Rattle.paged_runs.proofs.Answering.{place_by, place-along, place-free, StoredAt, stored_at, position_by, position_at, part_by}

module _ (b : List ℕ) (v : View) (ls : List ℕ) (h : Holds (pages_kind v.width v.step) b v ls) where
  known : Inside b v
  known = inside b v h.counted

  -- ---- the levels of the file

  same-sizes : sizes_of v.step v.seconds ≡ length (spans (runs ls)) ∷ sizes_above (length (spans (runs ls))) v.step (length (spans (runs ls)))
  same-sizes = rw (← seconds_held b v ls h) (sizes_enough v.step (length (spans (runs ls))) known.low (rw (seconds_held b v ls h) known.seconds))

  cut_held : Cut (length (spans (runs ls))) v.step (spans (runs ls))
  cut_held = cut-levels (length (spans (runs ls))) v.step (spans (runs ls)) (omega (arith, known.low))

  cut_all : cut (sizes_of v.step v.seconds) (length (sizes_of v.step v.seconds)) (entries v.start b)
      ≡ levels (length (spans (runs ls))) v.step (spans (runs ls))
  unfolding upper_levels
  cut_all =
      let e = entries_held b v ls h in
      let l = length-level v.step (spans (runs ls)) in
      let f = rw l at e in
      rw (same-sizes, f) (cut_held.lists (drop v.seconds (drop v.firsts (entries v.start b))))

  total-all : total (sizes_of v.step v.seconds) (length (sizes_of v.step v.seconds)) ≡ v.firsts + v.seconds
  unfolding upper_levels
  total-all =
      let l = length-level v.step (spans (runs ls)) in
      let f = rw l at (firsts_held b v ls h) in
      rw same-sizes (cut_held.sum ∙ rw (f, seconds_held b v ls h))

  proper_held : Proper (spans (runs ls))
  proper_held = proper_runs v.cells ls h.rising

  found : (asked : Asked) (n : ℕ) → n < 2 ^ 32
      → searched b v.start v.step v.seconds asked n ≡ answered asked (seek_from (exact (for_rank asked)) 0 n none (spans (runs ls)))
  unfolding searched descended descent
  found asked n small =
      let s = for_rank asked in
      let i = known in
      let cells : cells_of (spans (runs ls)) < 2 ^ 32 = omega (arith, h.counted.cells-most, cells-runs v.cells ls h.rising) in
      let fits : numbers_fit v.step v.seconds ≡ true = rw (le-leb 2 v.step i.low, le-leb v.step 64 i.high, le-leb v.seconds 16777216 i.seconds) in
      rw (fits, total-all, le-leb (v.start + 8 * (v.firsts + v.seconds)) (length b) i.long, cut_all)
      (ap (answered asked)
      (counts_descend s v.step (omega (arith, i.low)) (length (spans (runs ls))) (spans (runs ls)) (at 0 n none none) proper_held cells small
      ∙ descent_finds (exact s) (exact_add s) (exact_none s) v.step n (spans (runs ls)) i.low proper_held))

  -- ---- the answers

  again : positions_from 0 (spans (runs ls)) ≡ ls
  again = runs-back 0 v.cells ls h.rising

  place_found : (p : ℕ) → p < v.cells → FoundAmong p ls (place_by (searched b v.start v.step v.seconds ask.Place p) p v.words)
  place_found p l =
      let most = h.counted.cells-most in
      let n : v.words ≡ 0 + length (positions_from 0 (spans (runs ls))) = rw again (omega (arith, h.size)) in
      let w = place-along p v.words 0 p none (spans (runs ls)) (omega arith) proper_held (omega arith) (omega arith) n in
      let u = rw again at w in
      let u0 = u.below in
      rw (found ask.Place p (omega arith)) (record { below = omega arith; here = u.here })

  pub position-found : (r : ℕ) → r < v.words → position_by (searched b v.start v.step v.seconds ask.Rank r) r ≡ get_or ls r 0
  unfolding position_among
  position-found r k =
      let most = h.counted.cells-most in
      let l : r < length ls = rw h.size k in
      let low = rising-below 0 v.cells ls r h.rising l in
      let e : position_among r ls ≡ given (get_or ls r 0) = rw (lt-ltb r (length ls) l) in
      let g : position_at_place (seek_from stored_cells 0 r none (spans (runs ls))) ≡ given (get_or ls r 0)
      = sym (along-position r 0 none (spans (runs ls))) ∙ rw again e in
      rw (found ask.Rank r (omega arith))
      (position_at r (get_or ls r 0) (seek_from stored_cells 0 r none (spans (runs ls))) (stored_at r (spans (runs ls)) proper_held) g
      (omega arith))

  -- the ranks of a run from r on
  pub run-found : (r : ℕ) → r < v.words → PartOf ls r (part_by (searched b v.start v.step v.seconds ask.Run r) r)
  run-found r k =
      let most = h.counted.cells-most in
      let cells = cells-runs v.cells ls h.rising in
      let l : r < length ls = rw h.size k in
      let low = rising-below 0 v.cells ls r h.rising l in
      let w = rw again at (run_along (2 ^ 32) 0 r none (spans (runs ls)) proper_held (omega arith)) in
      rw (found ask.Run r (omega arith))
      (part r l (omega arith) (seek_from stored_cells 0 r none (spans (runs ls))) w (stored_at r (spans (runs ls)) proper_held))
    where
      part : (r : ℕ) → r < length ls → get_or ls r 0 < 2 ^ 32 → (q : Place) → RunAt (2 ^ 32) r ls q → StoredAt r q → PartOf ls r (part_by (answered ask.Run q) r)
      part r l g (lost a) w u = absurd (omega arith)
      part r l g (at i t c x) w u =
          let z : r + 0 ≡ r = omega arith in
          let left = ranks-left x t w.1 w.2 w.0 in
          let small : stored_cells x - t < 2 ^ 32 = omega (arith, w.2) in
          let empty : c.empty + x.empty < 2 ^ 32 = omega (arith, u.1, rw z at (w.4 0 (omega (arith, w.0)))) in
          let w0 = w.0 in
          let w3 = w.3 in
          let u0 = u.0 in
          let u1 = u.1 in
          rw (left, high_half (c.empty + x.empty) (stored_cells x - t) empty small, low_half (c.empty + x.empty) (stored_cells x - t) small)
          (record { some = omega arith; inside = omega arith; along = λ j s. w.4 j (omega arith) ∙ omega arith })

pub found_in : (b : List ℕ) (v : View) (p : ℕ) → p < v.cells → FoundIn (pages_kind v.width v.step) b v p (place_by (searched b v.start v.step v.seconds ask.Place p) p v.words)
found_in b v p l = record { right = λ ls h. place_found b v ls h p l; free = place-free (searched b v.start v.step v.seconds ask.Place p) p v.words }
