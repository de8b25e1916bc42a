-- The cursor's step by the kind's number, and the positions where it stands. Assumes nothing.
use Rattle.std.specs.Prelude.{ℕ, zero, suc, ◌≡◌, ◌⊎◌, Bool, true, List, eqb}
use Rattle.format.specs.declared.View.{View}
use Rattle.format.specs.Tools.{pick}
use Rattle.parts.specs.declared.Cursor.{Cursor}
use Rattle.parts.specs.Cursor.{before, walked_as, stepped_as}
use Rattle.parts.specs.Walks.{sought}
use Rattle.run_walk.specs.Steps as runs
use Rattle.positions.specs.Steps as positions
use Rattle.base_groups.specs.Steps as based
use Rattle.jump_walk.specs.Steps as jumps
use Rattle.page_walk.specs.Steps as paged

abbrev pub next_by : ℕ → List ℕ → View → Cursor → Cursor
next_by zero b v c = c
next_by (suc zero) b v c = runs.next b v c
next_by (suc (suc zero)) b v c = positions.next b v c
next_by (suc (suc (suc zero))) b v c = based.next b v c
next_by (suc (suc (suc (suc zero)))) b v c = jumps.next b v c
next_by (suc (suc (suc (suc (suc zero))))) b v c = paged.next b v c
next_by (suc (suc (suc (suc (suc (suc zero)))))) b v c = jumps.next b v c
next_by (suc (suc (suc (suc (suc (suc (suc k))))))) b v c = c

-- the cursor at the next rank
unfoldable pub next_of : List ℕ → View → Cursor → Cursor
next_of b v c = next_by v.kind b v c

-- the cursor at rank 0
unfoldable pub start_of : List ℕ → View → Cursor
start_of b v = next_of b v before

-- the positions where the cursor stands in n steps from c on, and the cursor after them
unfoldable pub walked : List ℕ → View → Cursor → ℕ → List ℕ
walked b v c n = walked_as (next_of b v) c n

unfoldable pub stepped_by : List ℕ → View → Cursor → ℕ → Cursor
stepped_by b v c n = stepped_as (next_of b v) c n

-- a kind whose position of a rank is found by a walk
abbrev pub by_walk : ℕ → Bool
by_walk k = pick (eqb k 4) true (eqb k 6)

-- from c to the first position from p on, or past the last rank, in at most k steps
unfoldable pub sought_by : List ℕ → View → ℕ → ℕ → Cursor → Cursor
sought_by b v p k c = sought (next_of b v) v.words p k c

-- a kind that stores runs
abbrev pub stores_runs : ℕ → Type 0
stores_runs k = (k ≡ 1) ⊎ (k ≡ 5)

-- the entries of the part that holds the runs
abbrev pub runs_of : View → ℕ
runs_of v = pick (eqb v.kind 1) v.firsts v.seconds
