-- `find` meets its contract. Assumes nothing.
use Rattle.laws.proofs.Tools.{and_both}
use Rattle.paged_runs.proofs.Finding.{found_in}
use Rattle.paged_runs.proofs.search.find.Goals as goal

-- `find` meets its contract. Assumes nothing.
pub returns-in_default : goal.returns-in_default
returns-in_default c =
    let a = c.args in
    let e = rw c.in_default.ensures.1 at c.in_default.ensures.2 in
    rw (← e) at (found_in a.file.now a.v a.p.0 c.requires)

pub returns : goal.returns
returns c =
    let a = c.args in
    let e = rw c.in-Some.ensures.1 at c.in-Some.ensures.2 in
    rw (and_both, c.saturating_sub-below.ensures, c.from.ensures) (rw (← e) at (found_in a.file.now a.v a.p.0 c.requires))
