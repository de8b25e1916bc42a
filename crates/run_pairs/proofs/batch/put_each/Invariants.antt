use Rattle.parts.proofs.Taken.{Writing}
use Rattle.run_pairs.specs.Coding.{runs_coder}
use Rattle.run_pairs.proofs.batch.put_each.Given as goal

abbrev pub invariant-loop-p : goal.invariant-loop-p
invariant-loop-p l = Writing runs_coder l.ps l.initial.at l.initial.dst l.at l.dst l.p-index
