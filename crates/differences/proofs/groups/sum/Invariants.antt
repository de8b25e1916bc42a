-- The sum of a group. Assumes nothing.
use Prim.Native.Nat.{◌*◌, ◌≤◌}
use mathlib.Core.Path.{◌≡◌}
use Rattle.differences.specs.Walk.{total}
use Rattle.differences.proofs.groups.sum.Given as goal

-- The sum of a group. Assumes nothing.
-- k differences are added
abbrev pub invariant-loop-k : goal.invariant-loop-k
invariant-loop-k l = (l.x ≤ 65536 * l.k) × (l.x ≡ total l.width l.second l.file l.r l.k)
