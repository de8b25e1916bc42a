-- Whole runs of kind 1 copied as pairs: where cursor and encoder stand between two runs. Assumes nothing.
use Rattle.std.specs.Prelude.{◌≡◌, ℕ, suc, ◌+◌, ◌-◌, ◌*◌, ◌<◌, ◌≤◌, List}
use Rattle.format.specs.declared.View.{View}
use Rattle.parts.specs.declared.Cursor.{Cursor}
use Rattle.parts.specs.declared.Encoder.{Encoder}
use Rattle.wire.specs.Wire.{add32}
use Rattle.run_search.specs.Before.{last_at, empty_at, ranks_before}

-- the cursor c at the first cell of run i
unfoldable pub at_run : List ℕ → View → Cursor → ℕ → Cursor
at_run b v c i =
    record {
      rank = ranks_before b v.start i;
      at = add32 (ranks_before b v.start i) (empty_at b v.start i);
      next = suc i;
      last = last_at b v.start i;
      used = c.used;
      base = c.base;
      empty = c.empty;
    }

-- the cursor c at the last cell of a run with the pair l and y, where j runs are entered
unfoldable pub at_end : Cursor → ℕ → ℕ → ℕ → Cursor
at_end c l y j = record { rank = l - y; at = l; next = j; last = l; used = c.used; base = c.base; empty = c.empty }

-- the encoder e after n more runs with k ranks in all, the last of which ends at l; the pair of the last is still to come
unfoldable pub ran_on : Encoder → ℕ → ℕ → ℕ → Encoder
ran_on e l k n =
    record {
      rank = e.rank + k;
      last = l;
      left = e.left;
      base = e.base;
      cells = e.cells;
      empty = e.empty;
      first = e.first + 8 * n;
      second = e.second;
      fits = e.fits;
    }

-- between two runs: the cursor stands at the first cell of a run, and the last position taken is the last cell of the run before
pub record BetweenRuns (b : List ℕ) (v : View) (c : Cursor) (e : Encoder) : Type 0 where
  pub run : c.next - 2 < v.firsts
  pub cursor : c ≡ at_run b v c (suc (c.next - 2))
  pub last : e.last ≡ last_at b v.start (c.next - 2)
  pub some : 1 ≤ e.rank
