-- The parts of each kind: the positions come back, and sizes and counts are those that the layout gives. Assumes nothing.
use Prim.Native.Nat.{ℕ, ◌+◌, ◌*◌, ◌^◌, ◌≤◌}
use mathlib.Core.Path.{◌≡◌, refl, sym, ap, ◌∙◌, subst}
use mathlib.Core.Bool.{true, false}
use mathlib.Core.List.{List, ◌++◌, append_assoc}
use native.Mathlib.Nat.{le_refl, mul-le-mul}
use native.Mathlib.Omega.{arith}
use lib.ListN.{length, length-append}
use borrow.Author.Tests.{eq-eqb, le-leb}
use Rattle.format.specs.Tools.{Below, up_to}
use Rattle.format.specs.Bytes.{bytes_of, numbers_of}
use Rattle.format.specs.Runs.{runs, spans, flat_runs, run_parts, runs_kind}
use Rattle.format.specs.PagedRuns.{flat_spans, level, upper_levels, upper_entries, paged_parts, pages_kind}
use Rattle.format.specs.BaseOffset.{bases, offsets, offsets_fit, based_parts, based_kind}
use Rattle.format.specs.Jumps.{differences, jumps, jump_parts, jumps_kind}
use Rattle.format.specs.PointedJumps.{pointers, pointed_parts, pointed_kind}
use Rattle.format.specs.Positions.{position_parts, positions_kind}
use Rattle.format.specs.Codec.{Codec}
use Rattle.format.specs.declared.Setting.{Setting}
use Rattle.format.specs.Kinds.{codec, setting_allowed}
use Rattle.laws.proofs.Stored.{Rising, rising-length}
use Rattle.laws.proofs.Tools.{not-false}
use Rattle.laws.proofs.Bytes.{length-bytes_of, numbers_of-bytes_of, below-append, below-bytes_of}
use Rattle.laws.proofs.Positions.{based-back, length-bases, length-offsets, jumps-back, runs-back, pairs_back, runs_in_flat, spans_in_flat, length-flat_runs, length-flat_spans}
use Rattle.laws.proofs.Bounds.{below-rising, below_widen, below-bases, below-offsets, up_to_le, length-differences, below-differences, below-jumps_of, length-jumps_of, below-runs, length_runs, length-level, length-upper_levels, upper_entries_le, below-level, length-spans}
use Rattle.laws.proofs.Pointers.{length-jumps, length-pointers}
use Rattle.laws.proofs.Settings.{by_kind}

-- what is known of the parts of the stored positions ls of n cells in a kind
pub record Known (c : Codec) (n : ℕ) (ls : List ℕ) : Type 0 where
  pub back : (more more' : List ℕ)
      → c.positions (c.parts n ls).first_count ((c.parts n ls).first ++ more) (c.parts n ls).second_count ((c.parts n ls).second ++ more') ≡ ls
  pub first-size : length (c.parts n ls).first ≡ c.first_bytes (c.parts n ls).first_count (c.parts n ls).second_count
  pub second-size : length (c.parts n ls).second ≡ c.second_bytes (c.parts n ls).first_count (c.parts n ls).second_count
  pub allowed : c.counts n (length ls) (c.parts n ls).first_count (c.parts n ls).second_count ≡ true
  pub first-most : length (c.parts n ls).first ≤ 16 * n
  pub second-most : length (c.parts n ls).second ≤ 8 * n
  pub firsts : (c.parts n ls).first_count ≤ 2 * n
  pub seconds : (c.parts n ls).second_count ≤ n
  pub first_small : Below 256 (c.parts n ls).first
  pub second-small : Below 256 (c.parts n ls).second

numbers-back : (w n : ℕ) (xs more : List ℕ) → length xs ≡ n → Below (256 ^ w) xs → numbers_of w n (bytes_of w xs ++ more) ≡ xs
numbers-back w n xs more e h = subst (λ (k : ℕ). numbers_of w k (bytes_of w xs ++ more) ≡ xs) e (numbers_of-bytes_of w xs more h)

twice_four : (xs : List ℕ) (n : ℕ) → length xs ≡ 2 * n → length (bytes_of 4 xs) ≡ 8 * n
twice_four xs n h = rw (length-bytes_of 4 xs) (omega arith)

module _ (B : ℕ) (ls : List ℕ) (small : B ≤ 16777216) (r : Rising 0 B ls) where
  few : length ls ≤ B
  few = let n = rising-length 0 B ls (omega arith) r in omega arith

  fits4 : Below (256 ^ 4) ls
  fits4 = below_widen B (256 ^ 4) ls (omega arith) (below-rising 0 B ls r)

  run_known : Known (runs_kind 0 0) B ls
  unfolding runs_kind run_parts
  run_known =
      let f : Below (256 ^ 4) (flat_runs (runs ls)) = below_widen B (256 ^ 4) (flat_runs (runs ls)) (omega arith) (below-runs 0 B ls r) in
      let n = length_runs ls in
      let t : length (bytes_of 4 (flat_runs (runs ls))) ≡ 8 * length (runs ls) = twice_four (flat_runs (runs ls)) (length (runs ls)) (length-flat_runs (runs ls)) in
      let m0 = few in
      record {
        back = λ more more'. rw (numbers-back 4 (2 * length (runs ls)) (flat_runs (runs ls)) more (length-flat_runs (runs ls)) f, runs_in_flat, runs-back 0 B ls r);
        first-size = t;
        second-size = refl;
        allowed = rw (le-leb (length (runs ls)) (length ls) n);
        first-most = omega arith;
        second-most = omega arith;
        firsts = omega arith;
        seconds = omega arith;
        first_small = below-bytes_of 4 (flat_runs (runs ls));
        second-small = tt;
      }

  position_known : Known (positions_kind 0 0) B ls
  unfolding positions_kind position_parts
  position_known =
      let t = length-bytes_of 4 ls in
      let m0 = few in
      record {
        back = λ more more'. numbers_of-bytes_of 4 ls more fits4;
        first-size = t;
        second-size = refl;
        allowed = rw (eq-eqb (length ls) (length ls) refl);
        first-most = omega arith;
        second-most = omega arith;
        firsts = omega arith;
        seconds = omega arith;
        first_small = below-bytes_of 4 ls;
        second-small = tt;
      }

  based_known : (w l : ℕ) → w ≤ 2 → 1 ≤ l → offsets_fit w l ls ≡ true → Known (based_kind w l) B ls
  unfolding based_kind based_parts
  based_known w l hw hl u =
      let n : length (bases l ls) ≤ length ls = rw (length-bases l ls) (up_to_le (length ls) l hl) in
      let f : Below (256 ^ 4) (bases l ls) = below-bases l (256 ^ 4) ls (omega arith) fits4 in
      let t : length (bytes_of w (offsets l ls)) ≡ w * length ls = length-bytes_of w (offsets l ls) ∙ rw (length-offsets l ls) in
      let t4 = length-bytes_of 4 (bases l ls) in
      let t2 : w * length ls ≤ 2 * length ls = mul-le-mul hw (le_refl (length ls)) in
      let m0 = few in
      record {
        back = λ more more'. rw (numbers_of-bytes_of 4 (bases l ls) more f, numbers-back w (length ls) (offsets l ls) more' (length-offsets l ls) (below-offsets w l ls u), based-back l 0 B ls hl r);
        first-size = t4;
        second-size = t;
        allowed = rw (eq-eqb (length (bases l ls)) (up_to (length ls) l) (length-bases l ls), eq-eqb (length ls) (length ls) refl);
        first-most = omega arith;
        second-most = omega arith;
        firsts = omega arith;
        seconds = omega arith;
        first_small = below-bytes_of 4 (bases l ls);
        second-small = below-bytes_of w (offsets l ls);
      }

  jump_known : (w : ℕ) → w ≤ 2 → Known (jumps_kind w 0) B ls
  unfolding jumps_kind jump_parts jumps
  jump_known w hw =
      let n : length (jumps w ls) ≤ length ls = length-jumps_of (differences w ls) ls in
      let f : Below (256 ^ 4) (jumps w ls) = below-jumps_of (256 ^ 4) (differences w ls) ls fits4 in
      let t : length (bytes_of w (differences w ls)) ≡ w * length ls = length-bytes_of w (differences w ls) ∙ rw (length-differences w ls) in
      let t4 = length-bytes_of 4 (jumps w ls) in
      let t2 : w * length ls ≤ 2 * length ls = mul-le-mul hw (le_refl (length ls)) in
      let m0 = few in
      record {
        back = λ more more'. rw (numbers_of-bytes_of 4 (jumps w ls) more f, numbers-back w (length ls) (differences w ls) more' (length-differences w ls) (below-differences w ls), jumps-back w 0 B ls r);
        first-size = t4;
        second-size = t;
        allowed = rw (le-leb (length (jumps w ls)) (length ls) n, eq-eqb (length ls) (length ls) refl);
        first-most = omega arith;
        second-most = omega arith;
        firsts = omega arith;
        seconds = omega arith;
        first_small = below-bytes_of 4 (jumps w ls);
        second-small = below-bytes_of w (differences w ls);
      }

  paged_known : (b : ℕ) → 2 ≤ b → Known (pages_kind 0 b) B ls
  unfolding pages_kind paged_parts
  paged_known b hb =
      let xs = spans (runs ls) in
      let n : length xs ≤ length ls = length-spans ls in
      let lv : length (level b xs) ≡ length xs = length-level b xs in
      let c : length (upper_levels b (level b xs)) ≡ upper_entries b (length xs) = length-upper_levels b (level b xs) (omega arith) ∙ rw lv in
      let m : upper_entries b (length xs) ≤ 2 * length xs = upper_entries_le b (length xs) hb in
      let f : Below (256 ^ 4) (flat_spans (level b xs)) = below-level b 0 B (256 ^ 4) ls (omega arith) r in
      let fl : length (flat_spans (level b xs)) ≡ 2 * length xs = length-flat_spans (level b xs) ∙ rw lv in
      let t : length (bytes_of 4 (flat_spans (level b xs))) ≡ 8 * length xs = twice_four (flat_spans (level b xs)) (length xs) fl in
      let t1 : length (bytes_of 4 (flat_spans (upper_levels b (level b xs)))) ≡ 8 * length (upper_levels b (level b xs))
      = twice_four (flat_spans (upper_levels b (level b xs))) (length (upper_levels b (level b xs))) (length-flat_spans (upper_levels b (level b xs))) in
      let m0 = few in
      record {
        back = λ more more'. rw (numbers-back 4 (2 * length xs) (flat_spans (level b xs)) more' fl f, spans_in_flat, pairs_back b xs, runs-back 0 B ls r);
        first-size = t1;
        second-size = t;
        allowed = rw (eq-eqb (length (upper_levels b (level b xs))) (upper_entries b (length xs)) c, le-leb (length xs) (length ls) n);
        first-most = omega arith;
        second-most = omega arith;
        firsts = omega arith;
        seconds = omega arith;
        first_small = below-bytes_of 4 (flat_spans (upper_levels b (level b xs)));
        second-small = below-bytes_of 4 (flat_spans (level b xs));
      }

  pointed_known : (w n : ℕ) → w ≤ 2 → 1 ≤ n → Known (pointed_kind w n) B ls
  unfolding pointed_kind pointed_parts jumps_kind jump_parts jumps
  pointed_known w n hw hn =
      let k = jump_known w hw in
      let ds = differences w ls in
      let ps = bytes_of 4 (pointers n ds) in
      let c : length (pointers n ds) ≡ up_to (length (jumps w ls)) n = length-pointers n ds ∙ ap (λ (j : ℕ). up_to j n) (sym (length-jumps w ls)) in
      let t4 : length ps ≡ 4 * up_to (length (jumps w ls)) n = length-bytes_of 4 (pointers n ds) ∙ ap (λ (j : ℕ). 4 * j) c in
      let t : length (bytes_of w ds) ≡ w * length ls = k.second-size in
      let a : length (bytes_of w ds ++ ps) ≡ length (bytes_of w ds) + length ps = length-append (bytes_of w ds) ps in
      let t2 : w * length ls ≤ 2 * length ls = mul-le-mul hw (le_refl (length ls)) in
      let m : length (jumps w ls) ≤ length ls = length-jumps_of ds ls in
      let m1 = up_to_le (length (jumps w ls)) n hn in
      let m0 = few in
      record {
        back = λ more more'. rw (append_assoc (bytes_of w ds) ps more') (k.back more (ps ++ more'));
        first-size = k.first-size;
        second-size = omega arith;
        allowed = k.allowed;
        first-most = k.first-most;
        second-most = omega arith;
        firsts = k.firsts;
        seconds = k.seconds;
        first_small = k.first_small;
        second-small = below-append 256 (bytes_of w ds) ps k.second-small (below-bytes_of 4 (pointers n ds));
      }

  pub known : (s : Setting) → setting_allowed s ≡ true → (codec s).unfit ls ≡ false → Known (codec s) B ls
  unfolding codec based_kind
  known = by_kind (λ (s : Setting). (codec s).unfit ls ≡ false → Known (codec s) B ls)
      (record {
        runs = λ u. run_known;
        positions = λ u. position_known;
        based = λ w l a b c e u. based_known w l b c (not-false (offsets_fit w l ls) u);
        jumps = λ w a b u. jump_known w b;
        paged = λ b a c u. paged_known b a;
        pointed = λ w n a b c e u. pointed_known w n b c;
      })
