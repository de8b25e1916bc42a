-- `list_cells` meets its contract: what is listed, then the stored cells that are left, stays the same. Assumes nothing.
use Prim.Native.Nat.{◌≤◌}
use mathlib.Core.Path.{◌≡◌}
use Rattle.stored_cells.proofs.Stored.{listed_from}
use Rattle.stored_cells.proofs.list_cells.Given as goal

abbrev pub invariant-loop-i : goal.invariant-loop-i
invariant-loop-i l =
    (l.listed ≤ l.i) × (listed_from l.empty l.at l.words l.out l.listed l.i ≡ listed_from l.empty l.at l.words l.initial.out l.n l.from)
