-- `run_of` meets its contract. Assumes nothing.
use Rattle.paged_runs.proofs.Finding.{run-found}
use Rattle.paged_runs.proofs.search.run_of.Goals as goal

-- `run_of` meets its contract. Assumes nothing.
pub returns-in_default : goal.returns-in_default
returns-in_default c =
    let a = c.args in
    let e = rw c.in_default.ensures.1 at c.in_default.ensures.2 in
    record { right = λ ls h k. rw c.from.ensures (rw (← e) at (run-found a.file.now a.v ls h a.r.0 k)) }

pub returns : goal.returns
returns c =
    let a = c.args in
    let e = rw c.in-Some.ensures.1 at c.in-Some.ensures.2 in
    record { right = λ ls h k. rw c.from-2.ensures (rw (← e) at (run-found a.file.now a.v ls h a.r.0 k)) }
