-- The cursor's step by a difference. Assumes nothing.
use Rattle.std.specs.Prelude.{◌≡◌, ℕ, ◌+◌, ◌*◌, List, ◌==◌}
use Rattle.format.specs.Tools.{pick}
use Rattle.wire.specs.Wire.{whole, add32}
use Rattle.stores.specs.Put.{put}
use Rattle.parts.specs.declared.Cursor.{Cursor}
use Rattle.parts.specs.Cursor.{moved_to, walked_as, stepped_as}

-- to the next jump; the jumps begin at `start`
unfoldable pub jump_from : List ℕ → ℕ → Cursor → Cursor
jump_from b start c =
    record {
      rank = add32 c.rank 1;
      at = whole 4 (start + 4 * c.next) b;
      next = add32 c.next 1;
      last = c.last;
      used = c.used;
      base = c.base;
      empty = c.empty;
    }

-- by the difference d: 0 is the next jump
unfoldable pub jump_by : List ℕ → ℕ → ℕ → Cursor → Cursor
jump_by b start d c = pick (d == 0) (jump_from b start c) (moved_to (add32 c.at d) c)

-- to the next rank: the jumps begin at `start`, the differences, of w bytes each, at `second`
unfoldable pub next_at : ℕ → ℕ → ℕ → List ℕ → Cursor → Cursor
next_at w start second b c = jump_by b start (whole w (second + w * add32 c.rank 1) b) c

-- m steps f from c lead to r, and their positions stand in `after` from an index on; else it is as `before`
pub record Filled (f : Cursor → Cursor) (c : Cursor) (from m : ℕ) (before : List ℕ) (r : Cursor) (after : List ℕ) : Type 0 where
  pub cursor : r ≡ stepped_as f c m
  pub positions : after ≡ put before from (walked_as f c m)
