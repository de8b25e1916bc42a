-- How a position goes into the first part. Assumes nothing.
use Rattle.std.specs.Prelude.{ℕ, ◌/◌, []}
use Rattle.format.specs.Bytes.{bytes}
use Rattle.parts.specs.Encoder.{Coder, unchanged, sizes_as}

-- each position, 4 bytes
unfoldable pub coder : ℕ → ℕ → Coder
coder w l =
    record {
      first = λ e p. bytes 4 p;
      second = λ e p. [];
      inside = λ e p. unchanged e;
      end_first = λ e. [];
      end_second = λ e. [];
      sizes = λ e. sizes_as e (e.first / 4) 0;
      derived = λ z start d. d;
    }
