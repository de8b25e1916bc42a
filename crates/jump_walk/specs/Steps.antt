-- The cursor's step. Assumes nothing.
use Rattle.std.specs.Prelude.{◌≡◌, ℕ, ◌-◌, ◌≤◌, List}
use Rattle.format.specs.declared.View.{View}
use Rattle.parts.specs.declared.Cursor.{Cursor}
use Rattle.parts.specs.Walks.{sought, Climbs}
use Rattle.wire.specs.Wire.{add32}
use Rattle.parts.specs.Cursor.{entry_of}
use Rattle.difference_rows.specs.Steps.{jump_by}

-- by the difference of the next rank
unfoldable pub next : List ℕ → View → Cursor → Cursor
next b v c = jump_by b v.start (entry_of b v (add32 c.rank 1)) c

-- on the way from c to the first position from p on, or to rank n, by the step f: what is left from r on leads to the same
pub record OnWay (f : Cursor → Cursor) (n p : ℕ) (c r : Cursor) : Type 0 where
  pub rank : c.rank ≤ r.rank
  pub same : sought f n p (n - r.rank) r ≡ sought f n p (n - c.rank) c
  pub climbs : Climbs f n c → Climbs f n r
