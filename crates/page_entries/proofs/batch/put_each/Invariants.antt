use Rattle.parts.proofs.Taken.{Writing}
use Rattle.page_entries.specs.Coding.{pages_coder}
use Rattle.page_entries.proofs.batch.put_each.Given as goal

abbrev pub invariant-loop-p : goal.invariant-loop-p
invariant-loop-p l = Writing (pages_coder l.step) l.ps l.initial.at l.initial.dst l.at l.dst l.p-index
