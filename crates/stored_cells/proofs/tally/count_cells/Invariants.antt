use Rattle.stored_cells.proofs.Tallied.{Counted}
use Rattle.stored_cells.proofs.tally.count_cells.Given as goal

abbrev pub invariant-loop-i : goal.invariant-loop-i
invariant-loop-i l = Counted l.empty l.words l.i l.stored l.runs
