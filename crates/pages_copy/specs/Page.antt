-- Runs of a page of kind 5 copied as entries: where cursor and encoder stand after them. Assumes nothing.
use Rattle.std.specs.Prelude.{◌≡◌, ℕ, ◌+◌, ◌*◌, ◌^◌, ◌<◌, ◌≤◌, List}
use Rattle.parts.specs.declared.Cursor.{Cursor}
use Rattle.parts.specs.declared.Encoder.{Encoder}
use Rattle.parts.specs.declared.walk.Walk.{Walk}
use Rattle.parts.specs.Encoder.{Coder}
use Rattle.parts.specs.Carried.{PutAs}

-- the cursor c at the last cell of the run m runs further in its page; these have so many cells and ranks
unfoldable pub cursor_on : Cursor → ℕ → ℕ → ℕ → Cursor
cursor_on c cells ranks m =
    record {
      rank = c.rank + ranks;
      at = c.last + cells;
      next = c.next + m;
      last = c.last + cells;
      used = c.used + m;
      base = c.base;
      empty = c.empty;
    }

-- the encoder e after them in the same page, which takes `left` more entries; that of the last run is one of them
unfoldable pub encoder_on : Encoder → ℕ → ℕ → ℕ → ℕ → Encoder
encoder_on e cells ranks m left =
    record {
      rank = e.rank + ranks;
      last = e.last + cells;
      left = left;
      base = e.base;
      cells = e.cells;
      empty = e.empty;
      first = e.first;
      second = e.second + 8 * m;
      fits = e.fits;
    }

-- no number of these wraps
pub record Fits (c : Cursor) (e : Encoder) (cells ranks m : ℕ) : Type 0 where
  pub rank : c.rank + ranks < 2 ^ 32
  pub last : c.last + cells < 2 ^ 32
  pub next : c.next + m < 2 ^ 32
  pub used : c.used + m < 2 ^ 32
  pub taken : e.rank + ranks < 2 ^ 32
  pub end : e.last + cells < 2 ^ 32
  pub place : e.second + 8 * m < 2 ^ 64

-- some of the `left` ranks behind the cursor c, which stands at the last position that e took: w is at the last of them, and their bytes are put into d, which becomes out
pub record Further (f : Cursor → Cursor) (k : Coder) (c : Cursor) (e : Encoder) (left : ℕ) (d : List ℕ) (w : Walk) (out : List ℕ) : Type 0 where
  pub ranks : ℕ
  pub most : ranks ≤ left
  pub rank : w.c.rank ≡ c.rank + ranks
  pub put : PutAs f k (f c) e ranks d (record { c = f w.c; e = w.e }) out
