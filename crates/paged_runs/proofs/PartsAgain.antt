-- The parts of kind 5 are right exactly when level 0 is, and the levels above it are those over it. Assumes nothing.
use Rattle.std.proofs.Common.{◌≡◌, ℕ, zero, suc, ◌+◌, ◌*◌, ◌≤◌, Bool, true, eqb, leb, List, length, take, drop, sym, refl, ◌∙◌, arith, length-drop, drop-drop, eq-eqb, le-leb}
use Rattle.format.specs.declared.View.{View}
use Rattle.format.specs.Tools.{Below, both}
use Rattle.format.specs.Bytes.{bytes_of, field, number, numbers_of}
use Rattle.format.specs.Codec.{Codec}
use Rattle.format.specs.Runs.{Span, runs, spans, positions_from}
use Rattle.format.specs.PagedRuns.{level, upper_levels, pairs_of, flat_spans, pages_kind, paged_parts}
use Rattle.laws.proofs.Tools.{cases, both_true, both_make, same_refl}
use Rattle.laws.proofs.Bytes.{below-drop}
use Rattle.laws.proofs.Bounds.{length-level, length-upper_levels}
use Rattle.laws.proofs.Positions.{runs-back}
use Rattle.laws.proofs.Check.{bytes_of-numbers_of}
use Rattle.parts.specs.Holds.{Counted, Holds, said, parts_right}
use Rattle.parts.proofs.Seen.{right_holds, holds_right}
use Rattle.levels.specs.Levels.{entries}
use Rattle.levels.specs.Comparing.{same_spans}
use Rattle.page_walk.specs.Passing.{runs_right}
use Rattle.levels.proofs.Reading.{pairs_in, pairs_none, pairs_cons, length_pairs, entries-take, entries_next}
use Rattle.levels.proofs.Bounded.{cells_of, empty_of, cells-runs}
use Rattle.paged_runs.proofs.Held.{inside, upper_held, level_held}
use Rattle.page_walk.proofs.GoodPairs.{good_runs, pairs_again, pairs_rising, pairs_length}
use Rattle.page_walk.proofs.Along.{right-level, passed_good}
use Rattle.levels.proofs.Above.{same-spans}

-- ---- the bytes of entries that were read

flat_pairs : (n : ℕ) (b : List ℕ) → flat_spans (pairs_in n b) ≡ numbers_of 4 (2 * n) b
unfolding flat_spans numbers_of
flat_pairs zero b = rw (pairs_none b)
flat_pairs (suc n) b =
    let e : 2 * suc n ≡ suc (suc (2 * n)) = omega arith in
    let f : field 4 0 b ≡ number (take 4 b) = unfold field in refl in
    let g : field 4 4 b ≡ number (take 4 (drop 4 b)) = unfold field in refl in
    rw (pairs_cons n b, e, flat_pairs n (drop 8 b), f, g, drop-drop 4 4 b)

pairs_bytes : (n at : ℕ) (b : List ℕ) → Below 256 b → at + 8 * n ≤ length b → bytes_of 4 (flat_spans (pairs_in n (drop at b))) ≡ take (8 * n) (drop at b)
pairs_bytes n at b s h =
    let e : 4 * (2 * n) ≡ 8 * n = omega arith in
    rw (flat_pairs n (drop at b), bytes_of-numbers_of 4 (2 * n) (drop at b) (below-drop 256 at b s) (rw (length-drop at b) (omega arith)), e)

-- ---- the two tests of the check

abbrev kind : View → Codec
kind v = pages_kind v.width v.step

abbrev level_read : List ℕ → View → List Span
level_read b v = take v.seconds (drop v.firsts (entries v.start b))

abbrev tests : List ℕ → View → Bool
tests b v =
    both (runs_right v.step v.cells v.words (level_read b v)) (same_spans (take v.firsts (entries v.start b)) (upper_levels v.step (level_read b v)))

module _ (b : List ℕ) (v : View) (s : Below 256 b) (c : Counted (kind v) b v) where
  read_pairs : level_read b v ≡ pairs_in v.seconds (drop v.second b)
  read_pairs = let i = inside b v c in rw i.second (entries_next v.start b v.firsts v.seconds (omega arith))

  positions_read : said (kind v) b v ≡ positions_from 0 (pairs_of v.step (level_read b v))
  unfolding said pages_kind pairs_in
  positions_read = rw read_pairs

  -- entries that pass the tests hold the parts
  tests_hold : tests b v ≡ true → Holds (kind v) b v (said (kind v) b v)
  unfolding pages_kind paged_parts
  tests_hold h =
      let i = inside b v c in
      let t = both_true (runs_right v.step v.cells v.words (level_read b v)) _ h in
      let l = right-level v.step v.cells v.words (level_read b v) t.0 in
      let u : take v.firsts (entries v.start b) ≡ upper_levels v.step (level_read b v) = same-spans _ _ t.1 in
      let xs = pairs_of v.step (level_read b v) in
      let ps = positions_read in
      let e : spans (runs (said (kind v) b v)) ≡ xs = rw ps (pairs_again xs l.good) in
      let w : level v.step (spans (runs (said (kind v) b v))) ≡ level_read b v = rw e l.sums in
      let n : length (level_read b v) ≡ v.seconds = rw read_pairs (length_pairs v.seconds (drop v.second b)) in
      let q = pairs_length xs l.good in
      let k = l.words in
      let long = i.long in
      let second = i.second in
      record {
        counted = c;
        back = refl;
        rising = rw ps (pairs_rising xs l.good v.cells l.cells);
        size = rw ps (omega arith);
        fits = refl;
        first_count_lem = rw w (length-upper_levels v.step (level_read b v) (omega (arith, i.low)) ∙ rw n (sym i.firsts));
        second-count = sym (length-level v.step (spans (runs (said (kind v) b v)))) ∙ rw w n;
        first = rw (w, ← u, entries-take v.start b v.firsts (omega arith)) (pairs_bytes v.firsts v.start b s (omega arith));
        second = rw (w, read_pairs) (pairs_bytes v.seconds v.second b s (omega arith));
      }

  -- and parts that are held pass the tests
  hold_tests : (ls : List ℕ) → Holds (kind v) b v ls → tests b v ≡ true
  hold_tests ls y =
      let st = v.step in
      let xs = spans (runs ls) in
      let m = cells-runs v.cells ls y.rising in
      let g = good_runs v.cells ls y.rising in
      let r : positions_from 0 xs ≡ ls = runs-back 0 v.cells ls y.rising in
      let q = rw (r, y.size) at (pairs_length xs g) in
      let t : runs_right st v.cells v.words (level st xs) ≡ true
      = passed_good st v.cells v.words xs g
      ∙ both_make (leb (cells_of xs) v.cells) (eqb (cells_of xs) (empty_of xs + v.words)) (le-leb (cells_of xs) v.cells m)
      (eq-eqb (cells_of xs) (empty_of xs + v.words) (omega arith)) in
      rw (level_held b v ls y, upper_held b v ls y, t) (same_refl (flat_spans (upper_levels st (level st xs))))

  pub parts_tested : parts_right (kind v) b v ≡ tests b v
  parts_tested =
      cases (tests b v)
      (λ e. holds_right (kind v) b v _ (tests_hold e) ∙ sym e)
      (λ e. cases (parts_right (kind v) b v) (λ z. z ∙ sym (hold_tests _ (right_holds (kind v) b v c z))) (λ z. z ∙ sym e))
