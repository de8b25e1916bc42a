-- What the crate says of itself: the cursor walks the stored positions, and the encoder puts out the parts of the kind. Assumes nothing.
use Prim.Native.Nat.{ℕ, ◌*◌, ◌/◌}
use mathlib.Core.Path.{◌≡◌, refl, ◌∙◌}
use mathlib.Core.Bool.{true}
use mathlib.Core.List.{List}
use native.Mathlib.Omega.{arith}
use lib.ListN.{length}
use Rattle.format.specs.Jumps.{jumps, jump_parts, jumps_kind}
use Rattle.laws.proofs.Bytes.{length-bytes_of}
use Rattle.parts.specs.declared.Encoder.{Encoder}
use Rattle.parts.specs.Encoder.{begun, unchanged, sizes_as}
use Rattle.parts.specs.Walks.{Walks}
use Rattle.parts.specs.Codes.{sizes_in, Codes}
use Rattle.parts.proofs.Outright.{outright}
use Rattle.parts.proofs.Taking.{same_fit}
use Rattle.jump_walk.specs.Steps.{next}
use Rattle.jump_walk.proofs.Walks.{next-rank, walk_held}
use Rattle.jump_entries.specs.Coding.{jumps_coder}
use Rattle.jump_entries.proofs.Adds.{keeps}
use Rattle.jump_entries.proofs.Taken.{seconds, firsts, whole, whole-rank, whole-first, whole-second}
use Rattle.jumps.specs.Coding.{coder}
use Rattle.jumps.proofs.Held.{widths, held}

-- ---- the cursor

pub walks : Walks jumps_kind next
walks =
    record {
      rank = next-rank;
      walk = λ b v ls h. walk_held b v ls (held b v ls h);
    }

-- ---- the encoder

sizes_as_lem : (e : Encoder) (n c s : ℕ) → e.rank ≡ n → e.first ≡ 4 * c → e.second ≡ s
    → sizes_as e (e.first / 4) e.rank ≡ record { words = n; firsts = c; seconds = n; first = 4 * c; second = s }
sizes_as_lem e n c s r f g = let q : 4 * c / 4 ≡ c = omega arith in rw (r, f, g, q)

module _ (w : ℕ) (ls : List ℕ) where
  sizes : (jumps_coder w).sizes (whole w ls) ≡ sizes_in (length ls) (jump_parts w ls)
  unfolding jumps_coder sizes_in jump_parts
  sizes = sizes_as_lem (whole w ls) (length ls) (length (jumps w ls)) _ (whole-rank w ls) (whole-first w ls) (whole-second w ls) ∙ rw (length-bytes_of 4 (jumps w ls))

pub codes : (w l : ℕ) → (jumps_kind w l).allowed ≡ true → Codes (coder w l) (jumps_kind w l)
unfolding coder
codes w l a =
    record {
      keeps = keeps w (widths w l a).1;
      fits = λ f g ls. unfold jumps_kind jumps_coder unchanged begun in same_fit (jumps_coder w) (begun f g) ls (λ e p. refl);
      out = λ B ls h o.
          outright (jumps_coder w) (jumps_kind w l) B ls (λ z start d. unfold jumps_coder in refl)
          (λ f g. unfold jumps_kind jump_parts in firsts w f g ls)
          (λ f g. unfold jumps_kind jump_parts in seconds w f g ls)
          (λ u. unfold jumps_kind in sizes w ls);
    }
