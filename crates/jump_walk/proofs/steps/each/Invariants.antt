use Rattle.std.proofs.Common.{length}
use Rattle.jump_walk.specs.Steps.{next}
use Rattle.parts.proofs.Batches.{Partly}
use Rattle.jump_walk.proofs.steps.each.Given as goal

abbrev pub invariant-loop-p : goal.invariant-loop-p
invariant-loop-p l = Partly (next l.file l.v) l.initial.c (length l.initial.out) l.c l.out l.p-index
