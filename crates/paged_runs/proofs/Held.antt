-- What the parts of kind 5 hold: counts and places where they are right, and the levels. Assumes nothing.
use Rattle.std.proofs.Common.{◌≡◌, ℕ, ◌+◌, ◌*◌, ◌^◌, ◌<◌, ◌≤◌, eqb, leb, List, ◌++◌, length, take, drop, sym, ap, ◌∙◌, ap₂, arith, take-append-drop, eqb-true, leb-true}
use Rattle.format.specs.declared.View.{View}
use Rattle.format.specs.Bytes.{bytes_of}
use Rattle.format.specs.Runs.{Span, runs, spans}
use Rattle.format.specs.PagedRuns.{level, upper_levels, upper_entries, flat_spans, pages_kind, paged_parts}
use Rattle.laws.proofs.Tools.{both_true}
use Rattle.laws.proofs.Bounds.{length-level}
use Rattle.parts.specs.Holds.{Counted, Holds}
use Rattle.levels.specs.Levels.{entries}
use Rattle.levels.specs.Comparing.{Inside}
use Rattle.page_walk.proofs.Allowed.{page-step}
use Rattle.levels.proofs.Reading.{pairs_back, entries-take, entries_next}
use Rattle.levels.proofs.Bounded.{cells_of, empty_of, level-below, upper_below, cells-runs, empty_runs}

-- ---- right counts

pub inside : (b : List ℕ) (v : View) → Counted (pages_kind v.width v.step) b v → Inside b v
unfolding pages_kind
inside b v c =
    let s = page-step v.width v.step c.allowed in
    let n = both_true (eqb v.firsts (upper_entries v.step v.seconds)) (leb v.seconds v.words) c.counts in
    let m = leb-true v.seconds v.words n.1 in
    let w = c.words-most in
    let k = c.cells-most in
    let e : v.second ≡ v.start + 8 * v.firsts = c.second in
    let l : v.second + 8 * v.seconds ≤ length b = c.inside in
    record {
      low = s.0;
      high = s.1;
      firsts = eqb-true v.firsts (upper_entries v.step v.seconds) n.0;
      seconds = omega arith;
      second = e;
      long = omega arith;
    }

-- ---- right parts

module _ (b : List ℕ) (v : View) (ls : List ℕ) (h : Holds (pages_kind v.width v.step) b v ls) where
  pub seconds_held : length (spans (runs ls)) ≡ v.seconds
  unfolding pages_kind paged_parts
  seconds_held = h.second-count

  pub firsts_held : length (upper_levels v.step (level v.step (spans (runs ls)))) ≡ v.firsts
  unfolding pages_kind paged_parts
  firsts_held = h.first_count_lem

  first-bytes : bytes_of 4 (flat_spans (upper_levels v.step (level v.step (spans (runs ls))))) ≡ take (8 * v.firsts) (drop v.start b)
  unfolding pages_kind paged_parts
  first-bytes = h.first

  second-bytes : bytes_of 4 (flat_spans (level v.step (spans (runs ls)))) ≡ take (8 * v.seconds) (drop v.second b)
  unfolding pages_kind paged_parts
  second-bytes = h.second

  cells-small : cells_of (spans (runs ls)) < 256 ^ 4
  cells-small = omega (arith, cells-runs v.cells ls h.rising, h.counted.cells-most)

  empty-small : empty_of (spans (runs ls)) < 256 ^ 4
  empty-small = omega (arith, empty_runs v.cells ls h.rising, h.counted.cells-most)

  -- the entries of the file are those of the levels, the top first
  pub upper_held : take v.firsts (entries v.start b) ≡ upper_levels v.step (level v.step (spans (runs ls)))
  upper_held =
      entries-take v.start b v.firsts (omega (arith, (inside b v h.counted).long))
      ∙ pairs_back v.firsts _ (drop v.start b) (upper_below v.step (256 ^ 4) (spans (runs ls)) cells-small empty-small) firsts_held first-bytes

  pub level_held : take v.seconds (drop v.firsts (entries v.start b)) ≡ level v.step (spans (runs ls))
  level_held =
      let i = inside b v h.counted in
      entries_next v.start b v.firsts v.seconds (omega arith)
      ∙ rw (← i.second)
      (pairs_back v.seconds _ (drop v.second b) (level-below v.step (256 ^ 4) (spans (runs ls)) cells-small empty-small)
      (length-level v.step (spans (runs ls)) ∙ seconds_held) second-bytes)

  pub entries_held : entries v.start b
      ≡ upper_levels v.step (level v.step (spans (runs ls)))
      ++ (level v.step (spans (runs ls)) ++ drop v.seconds (drop v.firsts (entries v.start b)))
  entries_held =
      sym (take-append-drop v.firsts (entries v.start b))
      ∙ ap₂ ◌++◌ upper_held (sym (take-append-drop v.seconds (drop v.firsts (entries v.start b)))
      ∙ ap (λ (l : List Span). l ++ drop v.seconds (drop v.firsts (entries v.start b))) level_held)
