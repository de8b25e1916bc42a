use Rattle.std.proofs.Common.{length}
use Rattle.parts.proofs.Batches.{Partly}
use Rattle.positions.specs.Steps.{next}
use Rattle.positions.proofs.steps.positions.Given as goal

abbrev pub invariant-loop-x : goal.invariant-loop-x
invariant-loop-x l = Partly (next l.file l.v) l.initial.c (length l.initial.out) l.c l.out l.x-index
