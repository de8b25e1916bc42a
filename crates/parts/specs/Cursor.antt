-- The cursor's steps as the code takes them, and the positions where it stands. Assumes nothing.
use Rattle.std.specs.Prelude.{◌≡◌, ℕ, zero, suc, ◌+◌, ◌*◌, List, [], ◌∷◌}
use Rattle.format.specs.declared.View.{View}
use Rattle.wire.specs.Wire.{whole, entry_size, add32}
use Rattle.parts.specs.declared.Cursor.{Cursor}

-- before rank 0: rank, position and last cell are -1, and a base or page is due
abbrev pub before : Cursor
before = record { rank = 4294967295; at = 4294967295; next = 0; last = 0; used = 4294967295; base = 0; empty = 0 }

-- at the next rank, at position p
unfoldable pub moved_to : ℕ → Cursor → Cursor
moved_to p c =
    record { rank = add32 c.rank 1; at = p; next = c.next; last = c.last; used = c.used; base = c.base; empty = c.empty }

-- the entry of rank r in a second part of 1 or 2 bytes for each rank
unfoldable pub entry_of : List ℕ → View → ℕ → ℕ
entry_of b v r = whole (entry_size v.width) (v.second + entry_size v.width * r) b

-- ---- along a run

-- the next cell of the run
unfoldable pub along_run : Cursor → Cursor
along_run c =
    record { rank = add32 c.rank 1; at = c.at + 1; next = c.next; last = c.last; used = c.used; base = c.base; empty = c.empty }

-- the cell of the run m further
unfoldable pub along_by : ℕ → Cursor → Cursor
along_by m c =
    record { rank = add32 c.rank m; at = add32 c.at m; next = c.next; last = c.last; used = c.used; base = c.base; empty = c.empty }

-- ---- by any step f

-- the positions where the cursor stands in n steps from c on
unfoldable pub walked_as : (Cursor → Cursor) → Cursor → ℕ → List ℕ
walked_as f c zero = []
walked_as f c (suc n) = c.at ∷ walked_as f (f c) n

-- the cursor after n steps from c
unfoldable pub stepped_as : (Cursor → Cursor) → Cursor → ℕ → Cursor
stepped_as f c zero = c
stepped_as f c (suc n) = stepped_as f (f c) n

-- n steps f from c lead to r, along the positions out
pub record Batch (f : Cursor → Cursor) (c : Cursor) (n : ℕ) (r : Cursor) (out : List ℕ) : Type 0 where
  pub cursor : r ≡ stepped_as f c n
  pub positions : out ≡ walked_as f c n
