-- The cursor's step along the positions, as the code takes it. Assumes nothing.
use Rattle.std.specs.Prelude.{ℕ, ◌+◌, ◌*◌, ◌^◌, ◌<◌, ◌≤◌, List, length}
use Rattle.format.specs.declared.View.{View}
use Rattle.wire.specs.Wire.{whole, add32}
use Rattle.parts.specs.declared.Cursor.{Cursor}
use Rattle.parts.specs.Cursor.{moved_to}

unfoldable pub next : List ℕ → View → Cursor → Cursor
next b v c = moved_to (whole 4 (v.start + 4 * add32 c.rank 1) b) c

-- the entries of the n ranks after the cursor's are all in the file
pub record There (b : List ℕ) (v : View) (c : Cursor) (n : ℕ) : Type 0 where
  pub ranks : c.rank + n < 2 ^ 32
  pub long : v.start + 4 * (c.rank + n) + 4 ≤ length b
