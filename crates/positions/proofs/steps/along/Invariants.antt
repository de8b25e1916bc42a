use Rattle.parts.proofs.Batches.{Partly}
use Rattle.positions.proofs.Ahead.{next_by, stand_at}
use Rattle.positions.proofs.steps.along.Given as goal

abbrev pub invariant-loop-i : goal.invariant-loop-i
invariant-loop-i l = Partly (next_by l.file l.c l.place) l.c l.n (stand_at l.file l.c l.place l.i) l.out l.i
