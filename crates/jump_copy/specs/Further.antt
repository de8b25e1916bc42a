-- The encoder after ranks that are copied. Assumes nothing.
use Rattle.std.specs.Prelude.{ℕ, ◌+◌, ◌*◌}
use Rattle.parts.specs.declared.Encoder.{Encoder}

-- n ranks further, at the position p, with so many jumps among them; a difference has w bytes
unfoldable pub further : ℕ → Encoder → ℕ → ℕ → ℕ → Encoder
further w e n p jumps =
    record {
      rank = e.rank + n;
      last = p;
      left = e.left;
      base = e.base;
      cells = e.cells;
      empty = e.empty;
      first = e.first + 4 * jumps;
      second = e.second + w * n;
      fits = e.fits;
    }
