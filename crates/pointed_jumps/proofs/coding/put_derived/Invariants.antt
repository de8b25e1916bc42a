-- The pointers, each from the one before. Assumes nothing.
use Rattle.pointed_jumps.proofs.Pointing.{Pointing}
use Rattle.pointed_jumps.proofs.coding.put_derived.Given as goal

abbrev pub invariant-loop-k : goal.invariant-loop-k
invariant-loop-k l = Pointing l.width l.step l.second l.at l.last l.count l.initial.dst l.dst l.rank l.k
