-- No rank is before the first. Assumes nothing.
use mathlib.Core.Path.{sym, ◌∙◌}
use native.Mathlib.Omega.{arith}
use Rattle.kinds.proofs.None.{never}
use Rattle.parts.proofs.Seen.{seen}
use Rattle.row_seek.proofs.Resumed.{ready_start}
use Rattle.row_seek.proofs.Runs.{reached_at}
use Rattle.row_seek.proofs.resume.begin.Goals as goal

-- No rank is before the first. Assumes nothing.
pub at_rank-requires : goal.at_rank-requires
at_rank-requires c = (c.requires, c.stores_runs.ensures.0 c.if-stores_runs.true)

pub returns-then-stores_runs : goal.returns-then-stores_runs
returns-then-stores_runs c =
    let k = c.stores_runs.ensures.0 c.if-stores_runs.true in
    (reached_at c.args.file.now c.args.v c.requires k c.at_rank.result 0 0 c.at_rank.ensures (omega arith) tt (λ h. omega arith)).ready

pub start-requires : goal.start-requires
start-requires c = (seen c.args.file.now c.args.v c.requires).header.counted.allowed

pub returns : goal.returns
returns c =
    let k = c.stores_runs.ensures.1 in
    ready_start c.args.file.now c.args.v c.requires (λ h. never (sym c.if-stores_runs.false ∙ k h)) _ c.start.ensures
