use lib.ListN.{drop}
use Rattle.page_entries.specs.Coding.{pages_coder}
use Rattle.page_entries.proofs.RunEnds.{Ending}
use Rattle.page_entries.proofs.batch.put_ends.Given as goal

abbrev pub invariant-loop-end : goal.invariant-loop-end
invariant-loop-end l = Ending (pages_coder l.step) l.ps l.initial.at l.initial.dst l.at l.dst l.taken (drop l.end-index l.ends)
