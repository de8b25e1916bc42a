-- How positions go into jumps and differences (document 01, "The file"). Assumes nothing.
use Rattle.std.specs.Prelude.{ℕ, ◌/◌, []}
use Rattle.format.specs.Bytes.{bytes}
use Rattle.format.specs.Jumps.{difference}
use Rattle.parts.specs.declared.Encoder.{Encoder}
use Rattle.parts.specs.Encoder.{Coder, if_zero, unchanged, sizes_as}

-- p less the last position, or 0 where it does not fit or there is none
unfoldable pub difference_at : ℕ → Encoder → ℕ → ℕ
difference_at w e p = if_zero e.rank 0 (difference w e.last p)

-- the difference, and a jump where it is 0
unfoldable pub jumps_coder : ℕ → Coder
jumps_coder w =
    record {
      first = λ e p. if_zero (difference_at w e p) (bytes 4 p) [];
      second = λ e p. bytes w (difference_at w e p);
      inside = λ e p. unchanged e;
      end_first = λ e. [];
      end_second = λ e. [];
      sizes = λ e. sizes_as e (e.first / 4) e.rank;
      derived = λ z start d. d;
    }
