-- The parts are right exactly when the pass goes through and the pointers are those of the differences. Assumes nothing.
use Prim.Native.Nat.{ℕ, ◌+◌, ◌*◌, ◌≤◌}
use mathlib.Core.Path.{◌≡◌, refl, sym, ap, ap₂, ◌∙◌}
use mathlib.Core.Bool.{Bool, true}
use mathlib.Core.List.{List, ◌++◌}
use native.Mathlib.Omega.{arith}
use lib.ListN.{length, take, drop, length-drop}
use lib.Seq.{take-add, drop-drop}
use Rattle.format.specs.declared.View.{View}
use Rattle.format.specs.Tools.{Below, both, up_to}
use Rattle.format.specs.Bytes.{bytes_of, numbers_of}
use Rattle.format.specs.Codec.{Codec}
use Rattle.format.specs.Jumps.{differences, jumped_positions, jump_parts}
use Rattle.format.specs.PointedJumps.{pointers, pointed_parts, pointed_kind}
use Rattle.laws.proofs.Tools.{both_true, both_make, both_assoc, same_eq, same_true}
use Rattle.laws.proofs.Bytes.{below-drop}
use Rattle.laws.proofs.Check.{bytes_of-numbers_of}
use Rattle.laws.proofs.Pointers.{length-jumps, length-pointers}
use Rattle.parts.specs.Holds.{Counted, said, parts_right, Holds}
use Rattle.jump_pass.specs.Pass.{passes_from, starts}
use Rattle.jump_pass.proofs.Rows.{rows_right, rows_said, rows, differences_held, rows-through, rows_split, right_where}
use Rattle.pointed_jumps.specs.Pointed.{pointers_said, pointed_right}
use Rattle.pointed_jumps.proofs.Held.{Pointed, seconds, pointers-there, laid, pointed}

module _ (b : List ℕ) (v : View) where
  abbrev K : Codec
  K = pointed_kind v.width v.step

  abbrev test : Bool
  test = both (rows_right b v) (pointed_right b v)

  -- what passes holds the positions that it says
  goes : Below 256 b → Counted K b v → test ≡ true → Holds K b v (rows_said b v)
  unfolding said pointed_kind pointed_parts jump_parts pointed_right pointers_said
  goes s c h =
      let t = both_true (rows_right b v) _ h in
      let n = seconds b v c in
      let r = rows b v (laid b v c) s t.0 in
      let m = v.width * v.words in
      let i = pointers-there b v c in
      let d = drop (v.second + m) b in
      let l : 4 * up_to v.firsts v.step ≤ length d = rw (length-drop (v.second + m) b) (omega arith) in
      let e : bytes_of 4 (pointers v.step (differences v.width (rows_said b v))) ≡ take (4 * up_to v.firsts v.step) d
      = ap (λ (ds : List ℕ). bytes_of 4 (pointers v.step ds)) r.differences ∙ ap (bytes_of 4) (same_true _ _ t.1)
      ∙ bytes_of-numbers_of 4 (up_to v.firsts v.step) d (below-drop 256 (v.second + m) b s) l in
      record {
        counted = c;
        back = ap (λ (x : ℕ). jumped_positions (numbers_of 4 v.firsts (drop v.start b)) (numbers_of v.width x (drop v.second b))) n ∙ r.back;
        rising = r.rising;
        size = r.size;
        fits = refl;
        first_count_lem = r.count;
        second-count = r.size ∙ sym n;
        first = r.first;
        second =
            ap₂ ◌++◌ r.second (e ∙ ap (take (4 * up_to v.firsts v.step)) (sym (drop-drop m v.second b)))
            ∙ sym (take-add m (4 * up_to v.firsts v.step) (drop v.second b))
            ∙ ap (λ (x : ℕ). take (v.width * x + 4 * up_to v.firsts v.step) (drop v.second b)) (sym n);
      }

  -- what holds positions passes
  through : (ls : List ℕ) → Pointed b v ls → test ≡ true
  unfolding pointed_right pointers_said
  through ls h =
      let p = h.held in
      let ds = differences v.width ls in
      let k : length (pointers v.step ds) ≡ up_to v.firsts v.step
      = length-pointers v.step ds ∙ ap (λ (x : ℕ). up_to x v.step) (sym (length-jumps v.width ls) ∙ p.count) in
      let z : v.second + v.width * v.words + 4 * 0 ≡ v.second + v.width * v.words = omega arith in
      let e : numbers_of 4 (up_to v.firsts v.step) (drop (v.second + v.width * v.words) b) ≡ pointers v.step ds = rw (k, z) at h.pointers.list in
      both_make _ _ (rows-through b v ls p.size p.differences p.count p.jumps p.rising)
      (same_eq _ _ (ap (pointers v.step) (differences_held b v ls p.size p.differences) ∙ sym e))

  -- by whether rank 0 has the difference 0
  pub parts_split : Below 256 b → Counted K b v → (t : Bool) → t ≡ starts v b
      → parts_right K b v ≡ both t (both (passes_from v b 0 0 0) (pointed_right b v))
  parts_split s c t e =
      right_where K b v (rows_said b v) test c (goes s c) (λ h. through (said K b v) (pointed b v (said K b v) h))
      ∙ ap (λ (x : Bool). both x (pointed_right b v)) (rows_split b v t e) ∙ both_assoc t _ _
