-- The two ranks stay around p, and come nearer. Assumes nothing.
use Prim.Native.Nat.{◌-◌}
use Rattle.row_seek.specs.Ready.{Around}
use Rattle.row_seek.proofs.seek.narrowed.Given as goal

-- The two ranks stay around p, and come nearer. Assumes nothing.
abbrev pub invariant-loop-g : goal.invariant-loop-g
invariant-loop-g l = Around l.file l.v l.p.0 l.g

abbrev pub decreases-loop-g : goal.decreases-loop-g
decreases-loop-g l = l.g.high - l.g.low
