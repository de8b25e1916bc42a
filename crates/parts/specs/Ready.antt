-- What the code needs of an encoder so that no number wraps and the bytes have room, and what it leaves. Assumes nothing.
use Rattle.std.specs.Prelude.{ℕ, ◌+◌, ◌-◌, ◌*◌, ◌<◌, ◌≤◌, List, length}
use Rattle.stores.specs.Put.{put}
use Rattle.parts.specs.declared.Encoder.{Encoder}
use Rattle.parts.specs.Encoder.{Coder, taken_by}

-- the cells up to the last position taken; none at first
abbrev pub passed : Encoder → ℕ
passed e = e.last + 1 - (1 - e.rank)

-- between positions
pub record Sound (e : Encoder) : Type 0 where
  pub passed-most : passed e ≤ 16777216
  pub base-most : e.base ≤ passed e
  pub cells-most : e.cells ≤ passed e
  pub empty-most : e.empty + e.rank ≤ passed e
  pub first-most : e.first ≤ 4294967296 + 8 * e.rank
  pub second-most : e.second ≤ 4294967296 + 8 * e.rank

-- p can be taken next: it is above each position taken
pub record Next (e : Encoder) (p : ℕ) : Type 0 where
  pub sound : Sound e
  pub above : passed e ≤ p
  pub below : p < 16777216

-- the bytes that p adds have room in n elements
pub record Room (k : Coder) (e : Encoder) (p n : ℕ) : Type 0 where
  pub first : e.first + length (k.first e p) ≤ n
  pub second : e.second + length (k.second e p) ≤ n

-- d with the bytes that p adds
unfoldable pub put_by : Coder → List ℕ → Encoder → ℕ → List ℕ
put_by k d e p = put (put d e.first (k.first e p)) e.second (k.second e p)

-- the encoder after p where only the places f and g of the next entries change
unfoldable pub moved : Encoder → ℕ → ℕ → ℕ → Encoder
moved e p f g =
    record {
      rank = e.rank + 1;
      last = p;
      left = e.left;
      base = e.base;
      cells = e.cells;
      empty = e.empty;
      first = f;
      second = g;
      fits = e.fits;
    }

-- a kind that keeps the encoder sound
abbrev pub Keeps : Coder → Type 0
Keeps k = (e : Encoder) (p : ℕ) → Next e p → Sound (taken_by k e p)
