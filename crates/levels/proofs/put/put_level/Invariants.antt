use Rattle.levels.proofs.Filling.{Filling}
use Rattle.levels.proofs.put.put_level.Given as goal

abbrev pub invariant-loop-rest : goal.invariant-loop-rest
invariant-loop-rest l = Filling l.initial.dst l.step l.start l.below l.under l.dst l.s l.at l.from l.rest

abbrev pub decreases-loop-rest : goal.decreases-loop-rest
decreases-loop-rest l = l.rest
