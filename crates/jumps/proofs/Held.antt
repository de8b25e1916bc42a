-- What parts that hold stored positions have at their places. Assumes nothing.
use Prim.Native.Nat.{ℕ, ◌*◌, ◌^◌, ◌≤◌}
use mathlib.Core.Path.{◌≡◌}
use mathlib.Core.Bool.{true}
use mathlib.Core.List.{List}
use native.Mathlib.Omega.{arith}
use lib.Dec.{leb}
use borrow.Author.Tests.{leb-true, eqb-true}
use Rattle.format.specs.declared.View.{View}
use Rattle.format.specs.Tools.{Below, within}
use Rattle.format.specs.Jumps.{differences, jumps, jump_parts, jumps_kind}
use Rattle.laws.proofs.Tools.{both_true, within_true}
use Rattle.laws.proofs.Bounds.{below-rising, below_widen, below-differences, below-jumps_of}
use Rattle.parts.specs.Holds.{Counted, Holds}
use Rattle.parts.proofs.Entries.{all-entries}
use Rattle.differences.specs.Walk.{Laid}
use Rattle.jump_walk.specs.Held.{Held}

pub widths : (w l : ℕ) → (jumps_kind w l).allowed ≡ true → (1 ≤ w) × (w ≤ 2)
unfolding jumps_kind
widths w l a = within_true 1 2 w (both_true (within 1 2 w) _ a).0

module _ (b : List ℕ) (v : View) where
  pub laid : Counted (jumps_kind v.width v.step) b v → Laid b v
  unfolding jumps_kind
  laid c =
      let w = widths v.width v.step c.allowed in
      let n = both_true (leb v.firsts v.words) _ c.counts in
      let s = eqb-true v.seconds v.words n.1 in
      record {
        narrow = w.0;
        wide = w.1;
        firsts = leb-true v.firsts v.words n.0;
        cells = c.cells-most;
        words = c.words-most;
        place = c.second;
        inside = rw s at c.inside;
      }

  pub seconds : Counted (jumps_kind v.width v.step) b v → v.seconds ≡ v.words
  unfolding jumps_kind
  seconds c = eqb-true v.seconds v.words (both_true (leb v.firsts v.words) _ c.counts).1

  pub held : (ls : List ℕ) → Holds (jumps_kind v.width v.step) b v ls → Held b v ls
  unfolding jumps_kind jump_parts jumps
  held ls h =
      let z = laid h.counted in
      let i = z.inside in
      let p = z.place in
      let m = z.cells in
      let four : Below (256 ^ 4) ls = below_widen v.cells (256 ^ 4) ls (omega arith) (below-rising 0 v.cells ls h.rising) in
      record {
        laid = z;
        rising = h.rising;
        size = h.size;
        count = h.first_count_lem;
        jumps = all-entries b 4 v.start (4 * v.firsts) (jumps v.width ls) (omega arith) (below-jumps_of (256 ^ 4) (differences v.width ls) ls four) h.first;
        differences = all-entries b v.width v.second (v.width * v.seconds) (differences v.width ls) (omega arith) (below-differences v.width ls) h.second;
      }
