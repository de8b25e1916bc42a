-- The parts are right exactly when the pass goes through. Assumes nothing.
use Prim.Native.Nat.{ℕ, ◌*◌}
use mathlib.Core.Path.{◌≡◌, refl, sym, ap, ◌∙◌}
use mathlib.Core.Bool.{Bool, true}
use mathlib.Core.List.{List}
use lib.ListN.{take, drop}
use Rattle.format.specs.declared.View.{View}
use Rattle.format.specs.Tools.{Below, both}
use Rattle.format.specs.Bytes.{numbers_of}
use Rattle.format.specs.Codec.{Codec}
use Rattle.format.specs.Jumps.{jumped_positions, jump_parts, jumps_kind}
use Rattle.parts.specs.Holds.{Counted, said, parts_right, Holds}
use Rattle.jump_pass.specs.Pass.{passes_from, starts}
use Rattle.jump_pass.proofs.Rows.{rows_right, rows_said, rows, rows-through, rows_split, right_where}
use Rattle.jumps.proofs.Held.{laid, seconds, held}

module _ (b : List ℕ) (v : View) where
  abbrev K : Codec
  K = jumps_kind v.width v.step

  -- what goes through holds the positions that it says
  goes : Below 256 b → Counted K b v → rows_right b v ≡ true → Holds K b v (rows_said b v)
  unfolding said jumps_kind jump_parts
  goes s c h =
      let n = seconds b v c in
      let r = rows b v (laid b v c) s h in
      record {
        counted = c;
        back = ap (λ (m : ℕ). jumped_positions (numbers_of 4 v.firsts (drop v.start b)) (numbers_of v.width m (drop v.second b))) n ∙ r.back;
        rising = r.rising;
        size = r.size;
        fits = refl;
        first_count_lem = r.count;
        second-count = r.size ∙ sym n;
        first = r.first;
        second = r.second ∙ ap (λ (m : ℕ). take (v.width * m) (drop v.second b)) (sym n);
      }

  -- by whether rank 0 has the difference 0
  pub parts_split : Below 256 b → Counted K b v → (t : Bool) → t ≡ starts v b → parts_right K b v ≡ both t (passes_from v b 0 0 0)
  parts_split s c t e =
      right_where K b v (rows_said b v) (rows_right b v) c (goes s c)
      (λ h. let p = held b v (said K b v) h in rows-through b v _ p.size p.differences p.count p.jumps p.rising)
      ∙ rows_split b v t e
