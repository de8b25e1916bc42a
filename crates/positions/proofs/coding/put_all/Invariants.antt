use Rattle.parts.proofs.Taken.{Writing}
use Rattle.positions.specs.Coding.{coder}
use Rattle.positions.proofs.coding.put_all.Given as goal

abbrev pub invariant-loop-p : goal.invariant-loop-p
invariant-loop-p l = Writing (coder l.width l.step) l.ps l.initial.at l.initial.dst l.at l.dst l.p-index
