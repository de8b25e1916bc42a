-- The search from the top page, for any bytes and any numbers. Assumes nothing.
use Rattle.std.proofs.Common.{◌≡◌, ℕ, None, ◌+◌, ◌*◌, ◌^◌, ◌<◌, ◌≤◌, true, false, List, length, sym, ap, ◌∙◌, arith, length-take, le-leb}
use borrow.Author.Tests.{lt-leb}
use Rattle.format.specs.Tools.{both, within}
use Rattle.format.specs.PagedRuns.{none, at}
use Rattle.laws.proofs.Tools.{both_false}
use Rattle.levels.specs.Levels.{entries, sizes_of, total, cut, Sized}
use Rattle.descent.specs.declared.search.Asked.{Asked}
use Rattle.descent.specs.Descent.{for_rank, answered, descended, numbers_fit, searched, LevelsFit}
use Rattle.levels.proofs.LevelSizes.{total-take, cut-take}

-- ---- refused numbers

module _ (file : List ℕ) (start step runs : ℕ) (asked : Asked) (number : ℕ) where
  none-unfit : numbers_fit step runs ≡ false → searched file start step runs asked number ≡ None
  unfolding searched
  none-unfit e = rw e

  pub step-low : step < 2 → searched file start step runs asked number ≡ None
  step-low h = none-unfit (rw (lt-leb 2 step h))

  pub step-high : 64 < step → searched file start step runs asked number ≡ None
  step-high h = let e : 2 ≤ step = omega arith in none-unfit (rw (le-leb 2 step e, lt-leb step 64 h))

  pub many_runs : 16777216 < runs → searched file start step runs asked number ≡ None
  many_runs h = none-unfit (ap (both (within 2 64 step)) (lt-leb runs 16777216 h) ∙ both_false (within 2 64 step))

  -- ---- numbers that fit, and the sizes that were stored

  module _ (low : 2 ≤ step) (high : step ≤ 64) (few : runs ≤ 16777216) (sizes : List ℕ) (count n : ℕ)
      (s : Sized step runs sizes count n) where
    fits : numbers_fit step runs ≡ true
    fits = rw (le-leb 2 step low, le-leb step 64 high, le-leb runs 16777216 few)

    counted-sizes : length (sizes_of step runs) ≡ count
    counted-sizes = rw (← s.levels, length-take count sizes) (omega (arith, s.room, s.count_most))

    some-sizes : 1 ≤ count
    unfolding sizes_of
    some-sizes = omega (arith, counted-sizes)

    same_total : total (sizes_of step runs) (length (sizes_of step runs)) ≡ n
    same_total = rw (counted-sizes, ← s.levels) (total-take sizes count count (omega arith) ∙ sym s.sum)

    pub short-file : length file < start + 8 * n → searched file start step runs asked number ≡ None
    unfolding searched
    short-file h = rw (fits, same_total, lt-leb (start + 8 * n) (length file) h)

    pub from_top : start + 8 * n ≤ length file
        → answered asked (descended (entries start file) sizes step (for_rank asked) count 0 (at 0 number none none)) ≡ searched file start step runs asked number
    unfolding searched descended
    from_top h =
        let e : cut (sizes_of step runs) count (entries start file) ≡ cut sizes count (entries start file)
        = ap (λ (l : List ℕ). cut l count (entries start file)) (sym s.levels) ∙ cut-take sizes count count (entries start file) (omega arith) in
        rw (fits, same_total, counted-sizes, le-leb (start + 8 * n) (length file) h, e)

    pub top_fits : start + 8 * n ≤ length file → length file < 2 ^ 64 → LevelsFit file start sizes step count 0 0 0
    top_fits h l =
        let sum = s.sum in
        let most = s.count_most in
        let some = some-sizes in
        record { inside = omega arith; long = l; number = omega arith; some = some; levels = omega arith; sum = omega arith; steps = omega arith }
