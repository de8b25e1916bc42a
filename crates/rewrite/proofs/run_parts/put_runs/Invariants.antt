use Rattle.parts.proofs.Carried.{Written}
use Rattle.kinds.specs.Steps.{next_of}
use Rattle.kinds.specs.Coding.{coder}
use Rattle.rewrite.proofs.run_parts.put_runs.Given as goal

abbrev pub invariant-loop-left : goal.invariant-loop-left
invariant-loop-left l = Written (next_of l.file l.v) (coder l.s) l.initial.dst l.initial.c l.initial.e l.n l.dst l.c l.e l.left

abbrev pub decreases-loop-left : goal.decreases-loop-left
decreases-loop-left l = l.left
