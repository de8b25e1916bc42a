-- The parts of kind 1 are right exactly when its pairs are. Assumes nothing.
use Rattle.std.proofs.Common.{◌≡◌, ℕ, suc, ◌+◌, ◌-◌, ◌*◌, ◌^◌, ◌<◌, ◌≤◌, true, ◌&&◌, eqb, leb, List, length, take, drop, sym, refl, ap, ◌∙◌, arith, length-drop, eqb-true}
use Rattle.format.specs.declared.View.{View}
use Rattle.format.specs.Tools.{Below}
use Rattle.format.specs.Bytes.{bytes_of}
use Rattle.format.specs.Runs.{runs, spans, positions_from, flat_runs, runs_in, run_parts, runs_kind}
use Rattle.laws.proofs.Tools.{cases, both_true, and_four}
use Rattle.laws.proofs.Bytes.{below-drop}
use Rattle.laws.proofs.Bounds.{below-runs, below_widen}
use Rattle.laws.proofs.Positions.{runs_in_flat, length-flat_runs}
use Rattle.laws.proofs.Check.{bytes_of-numbers_of}
use Rattle.laws.proofs.RunsBack.{weaker, runs_again, rising_again, length_again, runs-ordered, runs-end, runs-length}
use Rattle.wire.specs.declared.Pair.{Pair}
use Rattle.wire.specs.Wire.{field_pair}
use Rattle.rises.specs.Falls.{pair_falls}
use Rattle.parts.specs.Holds.{Counted, said, parts_right, Holds}
use Rattle.parts.proofs.Seen.{right_holds, holds_right}
use Rattle.parts.proofs.Entries.{Entries, all-entries}
use Rattle.run_walk.proofs.Pairs.{pairs, length_pairs, flat_pairs}
use Rattle.run_walk.proofs.Accepts.{Right, right_from, right_true, true_right, right-none, right-some}

-- the pairs are inside the file, and there is no second part
pub record Inside (b : List ℕ) (v : View) : Type 0 where
  pub long : v.start + 8 * v.firsts ≤ length b
  pub seconds : v.seconds ≡ 0

module _ (b : List ℕ) (v : View) where
  pub inside : Counted (runs_kind v.width v.step) b v → Inside b v
  unfolding runs_kind
  inside c =
      let s = c.second in
      let i = c.inside in
      record { long = omega arith; seconds = eqb-true v.seconds 0 (both_true (leb v.firsts v.words) _ c.counts).1 }

  -- the pairs of parts that hold ls: those of its runs
  pub held : (ls : List ℕ) → Holds (runs_kind v.width v.step) b v ls → Entries b 4 v.start 0 (flat_runs (runs ls))
  unfolding runs_kind run_parts
  held ls h =
      let i = (inside h.counted).long in
      let m = h.counted.cells-most in
      all-entries b 4 v.start (8 * v.firsts) (flat_runs (runs ls)) (omega arith)
      (below_widen v.cells (256 ^ 4) (flat_runs (runs ls)) (omega arith) (below-runs 0 v.cells ls h.rising)) h.first

  said_pairs : said (runs_kind v.width v.step) b v ≡ positions_from 0 (spans (pairs v.firsts v.start b))
  unfolding said runs_kind pairs
  said_pairs = refl

  -- the runs of ls are read back
  read_back : (ls : List ℕ) → Holds (runs_kind v.width v.step) b v ls → runs ls ≡ pairs v.firsts v.start b
  unfolding runs_kind run_parts pairs
  read_back ls h =
      let z : v.start + 4 * 0 ≡ v.start = omega arith in
      let n : length (flat_runs (runs ls)) ≡ 2 * v.firsts = length-flat_runs (runs ls) ∙ ap (λ (k : ℕ). 2 * k) h.first_count_lem in
      sym (runs_in_flat (runs ls)) ∙ ap runs_in (sym (rw (z, n) at (held ls h).list))

module _ (b : List ℕ) (v : View) (s : Below 256 b) (c : Counted (runs_kind v.width v.step) b v) where
  -- positions that are right come from pairs that are
  pairs_right : parts_right (runs_kind v.width v.step) b v ≡ true → Right v.cells v.words 0 0 (pairs v.firsts v.start b)
  pairs_right e =
      let ls = said (runs_kind v.width v.step) b v in
      let h = right_holds (runs_kind v.width v.step) b v c e in
      let w = runs-length 0 v.cells ls h.rising in
      let z = h.size in
      rw (← read_back b v ls h) (record {
        order = runs-ordered 0 v.cells ls h.rising;
        cells = runs-end 0 v.cells ls h.rising;
        words = omega arith;
      })

  -- and pairs that are right have positions that are
  right_pairs : Right v.cells v.words 0 0 (pairs v.firsts v.start b) → parts_right (runs_kind v.width v.step) b v ≡ true
  unfolding runs_kind run_parts
  right_pairs r =
      let rs = pairs v.firsts v.start b in
      let i = inside b v c in
      let l = i.long in
      let o = weaker 0 0 rs r.order in
      let q : runs (positions_from 0 (spans rs)) ≡ rs = runs_again rs r.order in
      let n = length_again rs o in
      let w = r.words in
      let e : 4 * (2 * v.firsts) ≡ 8 * v.firsts = omega arith in
      let k : 4 * (2 * v.firsts) ≤ length (drop v.start b) = rw (length-drop v.start b) (omega arith) in
      let f : bytes_of 4 (flat_runs rs) ≡ take (8 * v.firsts) (drop v.start b)
      = rw (flat_pairs v.firsts v.start b, bytes_of-numbers_of 4 (2 * v.firsts) (drop v.start b) (below-drop 256 v.start b s) k, e) in
      holds_right (runs_kind v.width v.step) b v (positions_from 0 (spans rs))
      (record {
        counted = c;
        back = said_pairs b v;
        rising = rising_again v.cells rs o r.cells;
        size = omega arith;
        fits = refl;
        first_count_lem = rw q (length_pairs v.firsts v.start b);
        second-count = sym i.seconds;
        first = rw q f;
        second = refl;
      })

  parts_pairs : parts_right (runs_kind v.width v.step) b v ≡ right_from v.cells v.words 0 0 (pairs v.firsts v.start b)
  parts_pairs =
      cases (right_from v.cells v.words 0 0 (pairs v.firsts v.start b))
      (λ e. right_pairs (right_true _ _ _ _ _ e) ∙ sym e)
      (λ e. cases (parts_right (runs_kind v.width v.step) b v) (λ p. p ∙ sym (true_right _ _ _ _ _ (pairs_right p))) (λ p. p ∙ sym e))

  -- ---- as the code tests it

  pub no_parts : v.firsts ≡ 0 → eqb v.words 0 ≡ parts_right (runs_kind v.width v.step) b v
  no_parts z = sym (parts_pairs ∙ rw z (right-none v.cells v.words v.start b))

  pub parts_by : 0 < v.firsts → (x y : Pair) (falls : ℕ) → x ≡ field_pair v.start b → y ≡ field_pair (v.start + 8 * (v.firsts - 1)) b
      → falls ≡ pair_falls (v.firsts - 1) v.start b
      → ((leb x.second x.first && eqb falls 0) && leb (y.first + 1) v.cells) && eqb (y.first + 1) (y.second + v.words)
      ≡ parts_right (runs_kind v.width v.step) b v
  parts_by k x y falls e f g =
      let n : v.firsts ≡ suc (v.firsts - 1) = omega arith in
      let w : suc y.first ≡ y.first + 1 = omega arith in
      let r = ap (λ (m : ℕ). right_from v.cells v.words 0 0 (pairs m v.start b)) n ∙ right-some v.cells v.words (v.firsts - 1) v.start b in
      and_four (leb x.second x.first) (eqb falls 0) (leb (y.first + 1) v.cells) (eqb (y.first + 1) (y.second + v.words))
      ∙ sym (parts_pairs ∙ rw (← e, ← f, ← g, w) at r)
