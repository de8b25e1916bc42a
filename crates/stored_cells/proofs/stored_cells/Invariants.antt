-- `stored_cells` meets its contract: what is listed, then the stored cells that are left, are all stored cells. Assumes nothing.
use Prim.Native.Nat.{◌*◌, ◌≤◌}
use mathlib.Core.Path.{◌≡◌}
use Rattle.format.specs.Stored.{stored_from}
use Rattle.stored_cells.proofs.Stored.{listed_from}
use Rattle.stored_cells.proofs.stored_cells.Given as goal

abbrev pub invariant-loop-g : goal.invariant-loop-g
invariant-loop-g l =
    (l.listed ≤ 16 * l.g) × (listed_from l.empty l.at l.words l.out l.listed (16 * l.g) ≡ stored_from l.empty l.at l.words)
