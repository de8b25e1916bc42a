-- The low rank stands below p all along, and the ranks after it fall. Assumes nothing.
use Prim.Native.Nat.{◌-◌, ◌≤◌, ◌<◌}
use lib.ListN.{get_or}
use Rattle.format.specs.Accepted.{positions_of}
use Rattle.row_seek.proofs.seek.gallop.Given as goal

-- The low rank stands below p all along, and the ranks after it fall. Assumes nothing.
abbrev pub invariant-loop-step : goal.invariant-loop-step
invariant-loop-step l = (l.low < l.v.words) × (1 ≤ l.step) × (get_or (positions_of l.file) l.low 0 < l.p.0)

abbrev pub decreases-loop-step : goal.decreases-loop-step
decreases-loop-step l = l.v.words - l.low
