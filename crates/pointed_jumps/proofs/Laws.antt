-- What the crate says of itself: the cursor walks the stored positions, and the encoder puts out the parts of the kind. Assumes nothing.
use Prim.Native.Nat.{ℕ, ◌*◌, ◌/◌}
use mathlib.Core.Path.{◌≡◌, refl, ap, ◌∙◌}
use mathlib.Core.Bool.{true}
use mathlib.Core.List.{List}
use native.Mathlib.Omega.{arith}
use lib.ListN.{length}
use Rattle.format.specs.Jumps.{jumps, jump_parts}
use Rattle.format.specs.PointedJumps.{pointed_parts, pointed_kind}
use Rattle.laws.proofs.Bytes.{length-bytes_of}
use Rattle.parts.specs.declared.Encoder.{Encoder}
use Rattle.parts.specs.Encoder.{begun, unchanged, ended_by, taken_all_by}
use Rattle.parts.specs.Walks.{Walks}
use Rattle.parts.specs.Codes.{sizes_in, Codes}
use Rattle.parts.proofs.Alike.{alike-back, ended_alike, taken-all-alike, keeps-alike}
use Rattle.parts.proofs.Taking.{same_fit}
use Rattle.jump_entries.specs.Coding.{jumps_coder}
use Rattle.jump_entries.proofs.Adds.{keeps}
use Rattle.jump_entries.proofs.Taken.{whole, whole-rank, whole-first, whole-second}
use Rattle.jump_walk.specs.Steps.{next}
use Rattle.jump_walk.proofs.Walks.{next-rank, walk_held}
use Rattle.pointed_jumps.specs.Coding.{coder}
use Rattle.pointed_jumps.proofs.Held.{widths, pointed}
use Rattle.pointed_jumps.proofs.Made.{alike, firsts-out, seconds-out, length-seconds, count-pointers, length-second, made}

-- ---- the cursor

pub walks : Walks pointed_kind next
walks = record { rank = next-rank; walk = λ b v ls h. walk_held b v ls (pointed b v ls h).held }

-- ---- the encoder

module _ (w n : ℕ) (ls : List ℕ) where
  -- the encoder after all positions and the end
  abbrev ended : Encoder
  ended = ended_by (coder w n) (taken_all_by (coder w n) (begun 0 0) ls)

  as_kind_4 : ended ≡ whole w ls
  as_kind_4 =
      let o = alike-back (jumps_coder w) (coder w n) (alike w n) in
      ended_alike (coder w n) (jumps_coder w) o (taken_all_by (coder w n) (begun 0 0) ls)
      ∙ ap (ended_by (jumps_coder w)) (taken-all-alike (coder w n) (jumps_coder w) o (begun 0 0) ls)

  -- the pointers are yet to be made, and count
  sizes : (B : ℕ) → (coder w n).sizes ended ≡ sizes_in (length ls) ((pointed_kind w n).parts B ls)
  unfolding sizes_in pointed_kind pointed_parts jump_parts coder
  sizes B =
      let q : 4 * length (jumps w ls) / 4 ≡ length (jumps w ls) = omega arith in
      let s = length-second w n ls B in
      rw (as_kind_4, whole-rank w ls, whole-first w ls, whole-second w ls, length-seconds w n ls, q, length-bytes_of 4 (jumps w ls), s, count-pointers w n ls)

pub codes : (w l : ℕ) → (pointed_kind w l).allowed ≡ true → Codes (coder w l) (pointed_kind w l)
codes w l a =
    record {
      keeps = keeps-alike (jumps_coder w) (coder w l) (alike w l) (keeps w (widths w l a).1);
      fits = λ f g ls. unfold pointed_kind coder jumps_coder unchanged begun in same_fit (coder w l) (begun f g) ls (λ e p. refl);
      out = λ B ls h o.
          record {
            first-most = λ f g. unfold pointed_kind pointed_parts jump_parts in let e = firsts-out w l ls f g in rw e (omega arith);
            second-most = λ f g. let e = seconds-out w l ls f g in let s = length-seconds w l ls in let t = length-second w l ls B in rw e (omega arith);
            sizes = λ u. sizes w l ls B;
            made = λ z q d start room. made w l ls B z q d start room;
          };
    }
