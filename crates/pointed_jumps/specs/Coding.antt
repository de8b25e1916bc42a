-- The coder of kind 6: kind 4's, and when the differences stand the pointers are made of them. Assumes nothing.
use Rattle.std.specs.Prelude.{ℕ, ◌+◌, ◌*◌, ◌/◌, List, drop}
use Rattle.format.specs.Tools.{up_to}
use Rattle.format.specs.Bytes.{bytes_of, numbers_of}
use Rattle.format.specs.PointedJumps.{pointers}
use Rattle.stores.specs.Put.{put}
use Rattle.parts.specs.Encoder.{Coder}
use Rattle.jump_entries.specs.Coding.{jumps_coder}

-- d with the pointers behind N differences of w bytes each, which stand from `second` on
unfoldable pub with_pointers : ℕ → ℕ → ℕ → ℕ → List ℕ → List ℕ
with_pointers w n N second d = put d (second + w * N) (bytes_of 4 (pointers n (numbers_of w N (drop second d))))

unfoldable pub coder : ℕ → ℕ → Coder
coder w n =
    record {
      first = (jumps_coder w).first;
      second = (jumps_coder w).second;
      inside = (jumps_coder w).inside;
      end_first = (jumps_coder w).end_first;
      end_second = (jumps_coder w).end_second;
      sizes = λ e.
          record {
            words = e.rank;
            firsts = e.first / 4;
            seconds = e.rank;
            first = e.first;
            second = e.second + 4 * up_to (e.first / 4) n;
          };
      derived = λ z start d. with_pointers w n z.words (start + z.first) d;
    }
