-- The jumps and differences of a file, by a view: they are those of rising positions exactly when the pass goes through. Assumes nothing.
use Prim.Native.Nat.{ℕ, ◌+◌, ◌-◌, ◌*◌, ◌≤◌}
use mathlib.Core.Path.{◌≡◌, sym, ap, ap₂, ◌∙◌}
use mathlib.Core.Bool.{Bool, true}
use mathlib.Core.List.{List}
use native.Mathlib.Nat.{sub-zero}
use native.Mathlib.Omega.{arith}
use lib.ListN.{length, take, drop, length-drop}
use Rattle.format.specs.declared.View.{View}
use Rattle.format.specs.Tools.{Below, both}
use Rattle.format.specs.Bytes.{bytes_of, numbers_of}
use Rattle.format.specs.Codec.{Codec}
use Rattle.format.specs.Jumps.{differences, jumps, jumped_positions}
use Rattle.laws.proofs.Tools.{cases}
use Rattle.laws.proofs.Stored.{Rising}
use Rattle.laws.proofs.Bytes.{below-drop, below-numbers_of}
use Rattle.laws.proofs.Bounds.{length-differences}
use Rattle.laws.proofs.Check.{bytes_of-numbers_of, length-numbers_of}
use Rattle.parts.specs.Holds.{Counted, said, parts_right, Holds}
use Rattle.parts.proofs.Seen.{right_holds, holds_right}
use Rattle.parts.proofs.Entries.{Entries}
use Rattle.differences.specs.Walk.{Laid}
use Rattle.jump_pass.specs.Pass.{entries_from, passes_all, jumps_left, differences_left, passes_from, starts}
use Rattle.jump_pass.proofs.Pass.{made, through-all}
use Rattle.jump_pass.proofs.Turns.{entries-all}

-- the positions that a pass goes through, by their bytes
pub record Rows (b : List ℕ) (v : View) (ls : List ℕ) : Type 0 where
  pub back : jumped_positions (numbers_of 4 v.firsts (drop v.start b)) (numbers_of v.width v.words (drop v.second b)) ≡ ls
  pub rising : Rising 0 v.cells ls
  pub size : length ls ≡ v.words
  pub count : length (jumps v.width ls) ≡ v.firsts
  pub first : bytes_of 4 (jumps v.width ls) ≡ take (4 * v.firsts) (drop v.start b)
  pub second : bytes_of v.width (differences v.width ls) ≡ take (v.width * v.words) (drop v.second b)
  pub differences : differences v.width ls ≡ differences_left v 0 b

module _ (b : List ℕ) (v : View) where
  -- the test of all ranks, and the positions that they say
  abbrev pub rows_right : Bool
  rows_right = passes_all v.width v.cells (jumps_left v 0 b) (differences_left v 0 b)

  abbrev pub rows_said : List ℕ
  rows_said = jumped_positions (jumps_left v 0 b) (differences_left v 0 b)

  -- all jumps, and all differences
  jumps-all : jumps_left v 0 b ≡ numbers_of 4 v.firsts (drop v.start b)
  unfolding jumps_left
  jumps-all = entries-all 4 v.start v.firsts b

  differences-all : differences_left v 0 b ≡ numbers_of v.width v.words (drop v.second b)
  unfolding differences_left
  differences-all = entries-all v.width v.second v.words b

  -- what goes through
  pub rows : Laid b v → Below 256 b → rows_right ≡ true → Rows b v rows_said
  rows z s h =
      let i = z.inside in
      let p = z.place in
      let l1 : 4 * v.firsts ≤ length (drop v.start b) = rw (length-drop v.start b) (omega arith) in
      let l2 : v.width * v.words ≤ length (drop v.second b) = rw (length-drop v.second b) (omega arith) in
      let m = made v.width v.cells (jumps_left v 0 b) (differences_left v 0 b)
      (rw differences-all (below-numbers_of v.width v.words (drop v.second b) (below-drop 256 v.second b s))) h in
      record {
        back = ap₂ jumped_positions (sym jumps-all) (sym differences-all);
        rising = m.rising;
        size =
            sym (length-differences v.width rows_said) ∙ ap length (m.differences ∙ differences-all)
            ∙ length-numbers_of v.width v.words (drop v.second b);
        count = ap length (m.jumps ∙ jumps-all) ∙ length-numbers_of 4 v.firsts (drop v.start b);
        first = ap (bytes_of 4) (m.jumps ∙ jumps-all) ∙ bytes_of-numbers_of 4 v.firsts (drop v.start b) (below-drop 256 v.start b s) l1;
        second =
            ap (bytes_of v.width) (m.differences ∙ differences-all)
            ∙ bytes_of-numbers_of v.width v.words (drop v.second b) (below-drop 256 v.second b s) l2;
        differences = m.differences;
      }

  -- what holds positions goes through
  module _ (ls : List ℕ) (size : length ls ≡ v.words) (d : Entries b v.width v.second 0 (differences v.width ls)) where
    pub differences_held : differences_left v 0 b ≡ differences v.width ls
    unfolding differences_left entries_from
    differences_held = let n = length-differences v.width ls ∙ size in rw (sub-zero v.words, ← n) d.list

    pub rows-through : length (jumps v.width ls) ≡ v.firsts → Entries b 4 v.start 0 (jumps v.width ls) → Rising 0 v.cells ls → rows_right ≡ true
    unfolding jumps_left entries_from
    rows-through count j r =
        let e : numbers_of 4 (v.firsts - 0) (drop (v.start + 4 * 0) b) ≡ jumps v.width ls = rw (sub-zero v.firsts, ← count) j.list in
        ap₂ (passes_all v.width v.cells) e differences_held ∙ through-all v.width v.cells ls r

  -- by whether rank 0 has the difference 0
  pub rows_split : (t : Bool) → t ≡ starts v b → rows_right ≡ both t (passes_from v b 0 0 0)
  unfolding passes_all starts passes_from
  rows_split t e = rw e

-- the parts of a kind are right exactly where a test passes: then they hold positions, and where they do it passes
pub right_where : (k : Codec) (b : List ℕ) (v : View) (ls : List ℕ) (t : Bool) → Counted k b v → (t ≡ true → Holds k b v ls) → (Holds k b v (said k b v) → t ≡ true)
    → parts_right k b v ≡ t
right_where k b v ls t c to from =
    cases t
    (λ e. holds_right k b v ls (to e) ∙ sym e)
    (λ e. cases (parts_right k b v) (λ p. p ∙ sym (from (right_holds k b v c p))) (λ p. p ∙ sym e))
