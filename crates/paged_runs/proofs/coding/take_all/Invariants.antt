use Rattle.parts.proofs.Taken.{Measuring}
use Rattle.page_entries.specs.Coding.{pages_coder}
use Rattle.paged_runs.proofs.coding.take_all.Given as goal

abbrev pub invariant-loop-p : goal.invariant-loop-p
invariant-loop-p l = Measuring (pages_coder l.step) l.ps l.initial.at l.at l.p-index
