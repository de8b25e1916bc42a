use Prim.Native.Nat.{◌-◌, ◌≤◌}
use mathlib.Core.Path.{◌≡◌}
use lib.ListN.{length, drop}
use Rattle.format.specs.Tools.{same}
use Rattle.format.specs.Accepted.{positions_of}
use Rattle.kinds.proofs.Walks.{Ahead}
use Rattle.lent_parts.proofs.same.same_positions.Given as goal

abbrev pub invariant-loop-rank : goal.invariant-loop-rank
invariant-loop-rank l =
    (l.rank ≤ l.v.words) × (length l.here ≡ 512) × (length l.there ≡ 512)
    × Ahead l.first l.v l.c l.rank × Ahead l.second l.w l.d l.rank
    × (same (drop l.rank (positions_of l.first)) (drop l.rank (positions_of l.second)) ≡ same (positions_of l.first) (positions_of l.second))

abbrev pub decreases-loop-rank : goal.decreases-loop-rank
decreases-loop-rank l = l.v.words - l.rank
