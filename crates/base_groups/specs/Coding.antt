-- The encoder: a base where none is left to serve p, and p less the base. Assumes nothing.
use Rattle.std.specs.Prelude.{ℕ, ◌+◌, ◌-◌, ◌/◌, ◌^◌, ◌≤◌, List, [], length, nat_le}
use Rattle.format.specs.Tools.{both}
use Rattle.format.specs.Bytes.{bytes}
use Rattle.parts.specs.declared.Encoder.{Encoder}
use Rattle.parts.specs.Encoder.{Coder, Inside, if_zero, left_after, sizes_as}
use Rattle.parts.specs.Batch.{Along}

unfoldable pub offset_at : Encoder → ℕ → ℕ
offset_at e p = if_zero e.left 0 (p - e.base)

unfoldable pub based : ℕ → ℕ → Encoder → ℕ → Inside
based w l e p =
    record {
      left = left_after l e.left;
      base = if_zero e.left p e.base;
      cells = e.cells;
      empty = e.empty;
      fits = both e.fits (nat_le (offset_at e p) (256 ^ w - 1));
    }

unfoldable pub coder : ℕ → ℕ → Coder
coder w l =
    record {
      first = λ e p. if_zero e.left (bytes 4 p) [];
      second = λ e p. bytes w (offset_at e p);
      inside = based w l;
      end_first = λ e. [];
      end_second = λ e. [];
      sizes = λ e. sizes_as e (e.first / 4) e.rank;
      derived = λ z start d. d;
    }

-- ---- the positions of one base

-- how many go to one base from here on: those that it still serves, or all of a new one's
unfoldable pub due : ℕ → ℕ → ℕ
due l left = if_zero left l left

-- the encoder with the base of p: its own, or p where none is left to serve it
unfoldable pub opened : ℕ → Encoder → ℕ → Encoder
opened l e p =
    record {
      rank = e.rank;
      last = e.last;
      left = due l e.left;
      base = if_zero e.left p e.base;
      cells = e.cells;
      empty = e.empty;
      first = if_zero e.left (e.first + 4) e.first;
      second = e.second;
      fits = e.fits;
    }

-- positions that can be taken next, at least one, and all of one base
pub record OneBase (l : ℕ) (e : Encoder) (ls : List ℕ) : Type 0 where
  pub along : Along e ls
  pub some : 1 ≤ length ls
  pub served : length ls ≤ due l e.left
