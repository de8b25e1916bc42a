use Rattle.parts.specs.Carried.{Reached}
use Rattle.parts.proofs.Carried.{Written}
use Rattle.page_walk.specs.Steps.{next}
use Rattle.page_entries.specs.Coding.{pages_coder}
use Rattle.pages_copy.proofs.put_runs.Given as goal

abbrev pub invariant-loop-left : goal.invariant-loop-left
invariant-loop-left l = Written (next l.file l.v) (pages_coder l.step) l.initial.dst l.initial.c l.initial.e l.n l.dst l.c l.e l.left × Reached (next l.file l.v) l.v.words l.c l.left

abbrev pub decreases-loop-left : goal.decreases-loop-left
decreases-loop-left l = l.left
