-- A pass over some ranks, group by group. Assumes nothing.
use Prim.Native.Nat.{◌-◌, ◌≤◌}
use Rattle.jump_pass.specs.Pass.{Goes}
use Rattle.jump_pass.proofs.check.pass_span.Given as goal

-- rank k is reached
abbrev pub invariant-loop-k : goal.invariant-loop-k
invariant-loop-k l = (l.k ≤ l.end) × Goes l.width l.second l.file l.i l.k l.initial.t l.t

abbrev pub decreases-loop-k : goal.decreases-loop-k
decreases-loop-k l = l.end - l.k
