-- What parts that hold stored positions have at their places: jumps, differences, and the pointers behind them. Assumes nothing.
use Prim.Native.Nat.{ℕ, ◌+◌, ◌*◌, ◌^◌, ◌≤◌}
use mathlib.Core.Path.{◌≡◌, sym, ap, ◌∙◌}
use mathlib.Core.Bool.{true}
use mathlib.Core.List.{List, ◌++◌}
use native.Mathlib.Omega.{arith}
use lib.ListN.{length, take, drop, length-drop}
use lib.Dec.{leb}
use lib.Seq.{length-take-le, take-take, take-add, drop-drop, take_at, drop_at}
use borrow.Author.Tests.{leb-true, eqb-true}
use Rattle.format.specs.declared.View.{View}
use Rattle.format.specs.Tools.{Below, within, up_to}
use Rattle.format.specs.Bytes.{bytes_of}
use Rattle.format.specs.Jumps.{differences, jumps, jump_parts}
use Rattle.format.specs.PointedJumps.{pointers, pointed_parts, pointed_kind}
use Rattle.laws.proofs.Tools.{both_true, within_true}
use Rattle.laws.proofs.Bytes.{length-bytes_of}
use Rattle.laws.proofs.Bounds.{below-rising, below_widen, below-differences, below-jumps_of, length-differences}
use Rattle.laws.proofs.Pointers.{pointers_fit}
use Rattle.parts.specs.Holds.{Counted, Holds}
use Rattle.parts.proofs.Entries.{Entries, all-entries}
use Rattle.differences.specs.Walk.{Laid}
use Rattle.jump_walk.specs.Held.{Held}

-- the jumps and differences of the positions ls, and the pointers of the jumps
pub record Pointed (b : List ℕ) (v : View) (ls : List ℕ) : Type 0 where
  pub held : Held b v ls
  pub step : 1 ≤ v.step
  pub pointers : Entries b 4 (v.second + v.width * v.words) 0 (pointers v.step (differences v.width ls))

-- ---- the setting

module _ (w n : ℕ) (a : (pointed_kind w n).allowed ≡ true) where
  pub widths : (1 ≤ w) × (w ≤ 2)
  unfolding pointed_kind
  widths = within_true 1 2 w (both_true (within 1 2 w) _ a).0

  pub steps : (1 ≤ n) × (n ≤ 255)
  unfolding pointed_kind
  steps = within_true 1 255 n (both_true (within 1 2 w) _ a).1

-- ---- two lists of bytes in one part

module _ (b xs ys : List ℕ) (s n m : ℕ) (l : length xs ≡ n) (e : xs ++ ys ≡ take (n + m) (drop s b)) (h : s + n ≤ length b) where
  front : xs ≡ take n (drop s b)
  front = sym (take_at xs ys n l) ∙ ap (take n) e ∙ take-take n (n + m) (drop s b) (omega arith)

  behind : ys ≡ take m (drop (s + n) b)
  behind =
      let k : length (take n (drop s b)) ≡ n = length-take-le n (drop s b) (omega (arith, length-drop s b)) in
      sym (drop_at xs ys n l) ∙ ap (drop n) (e ∙ take-add n m (drop s b)) ∙ drop_at (take n (drop s b)) _ n k ∙ ap (take m) (drop-drop n s b)

-- ---- the parts

module _ (b : List ℕ) (v : View) where
  module _ (c : Counted (pointed_kind v.width v.step) b v) where
    pub seconds : v.seconds ≡ v.words
    unfolding pointed_kind
    seconds = eqb-true v.seconds v.words (both_true (leb v.firsts v.words) _ c.counts).1

    -- the pointers lie in the file
    pub pointers-there : v.second + v.width * v.words + 4 * up_to v.firsts v.step ≤ length b
    unfolding pointed_kind
    pointers-there = let i = rw seconds at c.inside in omega arith

    pub laid : Laid b v
    unfolding pointed_kind
    laid =
        let w = widths v.width v.step c.allowed in
        let i = pointers-there in
        record {
          narrow = w.0;
          wide = w.1;
          firsts = leb-true v.firsts v.words (both_true (leb v.firsts v.words) _ c.counts).0;
          cells = c.cells-most;
          words = c.words-most;
          place = c.second;
          inside = omega arith;
        }

  pub pointed : (ls : List ℕ) → Holds (pointed_kind v.width v.step) b v ls → Pointed b v ls
  unfolding pointed_kind pointed_parts jump_parts jumps
  pointed ls h =
      let z = laid h.counted in
      let n = steps v.width v.step h.counted.allowed in
      let i = z.inside in
      let p = z.place in
      let m = z.cells in
      let o = z.words in
      let q = h.size in
      let four : Below (256 ^ 4) ls = below_widen v.cells (256 ^ 4) ls (omega arith) (below-rising 0 v.cells ls h.rising) in
      let ds = differences v.width ls in
      let l : length ds ≡ v.words = length-differences v.width ls ∙ q in
      let ps = pointers v.step ds in
      let xs = bytes_of v.width ds in
      let ys = bytes_of 4 ps in
      let k : length xs ≡ v.width * v.words = length-bytes_of v.width ds ∙ ap (λ (x : ℕ). v.width * x) l in
      let e : xs ++ ys ≡ take (v.width * v.words + 4 * up_to v.firsts v.step) (drop v.second b)
      = rw (seconds h.counted) at h.second in
      record {
        held = record {
          laid = z;
          rising = h.rising;
          size = q;
          count = h.first_count_lem;
          jumps = all-entries b 4 v.start (4 * v.firsts) (jumps v.width ls) (omega arith) (below-jumps_of (256 ^ 4) ds ls four) h.first;
          differences = all-entries b v.width v.second (v.width * v.words) ds (omega arith) (below-differences v.width ls) (front b xs ys v.second (v.width * v.words) (4 * up_to v.firsts v.step) k e i);
        };
        step = n.0;
        pointers = all-entries b 4 (v.second + v.width * v.words) (4 * up_to v.firsts v.step) ps i (pointers_fit v.step ds n.0 (omega arith))
            (behind b xs ys v.second (v.width * v.words) (4 * up_to v.firsts v.step) k e i);
      }
