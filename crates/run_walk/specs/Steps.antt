-- The cursor's step along kind 1's runs, as the code takes it. Assumes nothing.
use Rattle.std.specs.Prelude.{ℕ, ◌+◌, ◌*◌, ◌≤◌, List, length, nat_lt}
use Rattle.format.specs.declared.View.{View}
use Rattle.format.specs.Tools.{pick}
use Rattle.wire.specs.Wire.{pair_at, add32}
use Rattle.parts.specs.declared.Cursor.{Cursor}
use Rattle.parts.specs.Cursor.{along_run}

-- the first stored cell of the next run: its position is its rank and the empty cells before it
unfoldable pub entered : List ℕ → View → Cursor → Cursor
entered b v c =
    let x = pair_at (v.start + 8 * c.next) b in
    record {
      rank = add32 c.rank 1;
      at = add32 (add32 c.rank 1) x.second;
      next = add32 c.next 1;
      last = x.first;
      used = c.used;
      base = c.base;
      empty = c.empty;
    }

unfoldable pub next : List ℕ → View → Cursor → Cursor
next b v c = pick (nat_lt c.at c.last) (along_run c) (entered b v c)

-- the n pairs from the cursor's next on are all in the file
abbrev pub There : List ℕ → View → Cursor → ℕ → Type 0
There b v c n = v.start + 8 * (c.next + n) ≤ length b
