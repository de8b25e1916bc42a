-- The cursor's step, as the code takes it. Assumes nothing.
use Rattle.std.specs.Prelude.{ℕ, ◌+◌, ◌-◌, ◌*◌, ◌<◌, ◌≤◌, Bool, List, nat_lt}
use Rattle.format.specs.declared.View.{View}
use Rattle.format.specs.Tools.{pick}
use Rattle.wire.specs.Wire.{whole, add32}
use Rattle.parts.specs.declared.Cursor.{Cursor}
use Rattle.parts.specs.Cursor.{moved_to, entry_of}
use Rattle.offsets.specs.Sums.{There}

-- the base of the next rank: the same, or the next one
unfoldable pub base_of : List ℕ → View → Cursor → Cursor
base_of b v c =
    pick (nat_lt c.used v.step)
    (record { rank = c.rank; at = c.at; next = c.next; last = c.last; used = c.used + 1; base = c.base; empty = c.empty })
    (record {
      rank = c.rank;
      at = c.at;
      next = add32 c.next 1;
      last = c.last;
      used = 1;
      base = whole 4 (v.start + 4 * c.next) b;
      empty = c.empty;
    })

-- the offset of the next rank from the base in p
unfoldable pub offset_from : List ℕ → View → Cursor → Cursor
offset_from b v p = moved_to (add32 p.base (entry_of b v (add32 p.rank 1))) p

unfoldable pub next : List ℕ → View → Cursor → Cursor
next b v c = offset_from b v (base_of b v c)

-- ---- many ranks at a time

-- how many ranks from the cursor's on have its base, with its own; where offsets are missing only its own counts
unfoldable pub ahead_of : Bool → ℕ → ℕ → ℕ
ahead_of there step used = pick there (1 + (step - used)) 1

-- n ranks from the cursor's on, which have its base but for its own; where they are more than one, their offsets are there
pub record SameBase (b : List ℕ) (v : View) (c : Cursor) (n : ℕ) : Type 0 where
  pub some : 1 ≤ n
  pub few : n ≤ 1 + (v.step - c.used)
  pub there : 1 < n → There b v.width v.second c.rank n
