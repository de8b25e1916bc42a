-- Kind 5: the cursor's step along level 0, as the code takes it. Assumes nothing.
use Rattle.std.specs.Prelude.{◌≡◌, ℕ, ◌+◌, ◌-◌, ◌*◌, ◌≤◌, List, ◌++◌, length, take, nat_lt}
use Rattle.format.specs.declared.View.{View}
use Rattle.format.specs.Tools.{pick}
use Rattle.wire.specs.declared.Pair.{Pair}
use Rattle.wire.specs.Wire.{pair_at, add32}
use Rattle.parts.specs.declared.Cursor.{Cursor}
use Rattle.parts.specs.Cursor.{along_run, walked_as, stepped_as}

-- the page of the next entry: the same, or the one that begins after the cell at c
unfoldable pub page_of : ℕ → Cursor → Cursor
page_of step c =
    pick (nat_lt c.used step)
    (record { rank = c.rank; at = c.at; next = c.next; last = c.last; used = c.used + 1; base = c.base; empty = c.empty })
    (record { rank = c.rank; at = c.at; next = c.next; last = c.last; used = 1; base = c.at; empty = c.at - c.rank })

-- the first stored cell of the run of the entry x, which counts the cells and the empty cells from the start of the page in p
unfoldable pub entered_by : Pair → Cursor → Cursor
entered_by x p =
    record {
      rank = add32 p.rank 1;
      at = add32 (add32 p.rank 1) (add32 p.empty x.second);
      next = add32 p.next 1;
      last = add32 p.base x.first;
      used = p.used;
      base = p.base;
      empty = p.empty;
    }

-- that of the run of the next entry in the file, where level 0 begins at `second`
unfoldable pub entered : List ℕ → ℕ → Cursor → Cursor
entered b second p = entered_by (pair_at (second + 8 * p.next) b) p

-- the cursor at the next rank, in pages of `step` entries
unfoldable pub next_in : List ℕ → ℕ → ℕ → Cursor → Cursor
next_in b second step c = pick (nat_lt c.at c.last) (along_run c) (entered b second (page_of step c))

unfoldable pub next : List ℕ → View → Cursor → Cursor
next b v = next_in b v.second v.step

-- ---- many ranks

-- the n entries from the cursor's next on are all in the file
abbrev pub There : List ℕ → ℕ → Cursor → ℕ → Type 0
There b second c n = second + 8 * (c.next + n) ≤ length b

-- the elements from an index up to an end have become the positions of as many steps f from c on, which lead to r; those past the end may have changed
pub record Filled (f : Cursor → Cursor) (c : Cursor) (from end : ℕ) (before : List ℕ) (r : Cursor) (after : List ℕ) : Type 0 where
  pub low : from ≤ end
  pub high : end ≤ length before
  pub size : length after ≡ length before
  pub cursor : r ≡ stepped_as f c (end - from)
  pub positions : take end after ≡ take from before ++ walked_as f c (end - from)
