use Prim.Native.Nat.{◌-◌, ◌≤◌}
use mathlib.Core.Path.{◌≡◌}
use lib.ListN.{length, drop}
use Rattle.format.specs.Accepted.{positions_of, kept_of}
use Rattle.laws.proofs.Stored.{Rising}
use Rattle.kinds.proofs.Walks.{Ahead}
use Rattle.scatter.specs.Scatter.{scattered}
use Rattle.scatter.proofs.Blank.{blank}
use Rattle.scatter.proofs.expanded.Given as goal

abbrev pub invariant-loop-rank : goal.invariant-loop-rank
invariant-loop-rank l =
    (l.rank ≤ l.v.words) × (length l.dst ≡ length l.initial.dst) × (length l.batch ≡ 512)
    × Ahead l.file l.v l.c l.rank
    × (l.filled ≤ l.v.cells) × Rising l.filled l.v.cells (drop l.rank (positions_of l.file))
    × (scattered (blank l.v.empty l.v.cells l.filled l.dst) (drop l.rank (positions_of l.file)) (drop l.rank (kept_of l.file))
    ≡ scattered (blank l.v.empty l.v.cells 0 l.initial.dst) (positions_of l.file) (kept_of l.file))

abbrev pub decreases-loop-rank : goal.decreases-loop-rank
decreases-loop-rank l = l.v.words - l.rank
