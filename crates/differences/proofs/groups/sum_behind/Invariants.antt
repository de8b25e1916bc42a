-- The sum behind the last jump of some ranks. Assumes nothing.
use Prim.Native.Nat.{◌+◌, ◌*◌, ◌≤◌}
use mathlib.Core.Path.{◌≡◌}
use Rattle.differences.specs.Walk.{behind}
use Rattle.differences.proofs.groups.sum_behind.Given as goal

-- The sum behind the last jump of some ranks. Assumes nothing.
-- those behind rank k are added
abbrev pub invariant-loop-k : goal.invariant-loop-k
invariant-loop-k l = (l.x + 65536 * l.k ≤ 65536 * l.n) × (behind l.width l.second l.file l.r l.k + l.x ≡ behind l.width l.second l.file l.r l.n)
