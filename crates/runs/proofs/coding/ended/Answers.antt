-- `runs::coding::ended` meets its contract. Assumes nothing.
use Rattle.std.proofs.Common.{[], add-zero}
use Rattle.parts.specs.Encoder.{ended_by}
use Rattle.parts.proofs.Taking.{if_zero_lem, if_more}
use Rattle.run_pairs.specs.Coding.{run_pair, runs_coder}
use Rattle.run_pairs.proofs.Adds.{length_run}
use Rattle.runs.proofs.coding.ended.Goals as goal

-- `runs::coding::ended` meets its contract. Assumes nothing.
pub returns-then-e-ne0 : goal.returns-then-e-ne0
unfolding ended_by runs_coder
returns-then-e-ne0 c =
    let e = c.args.e in
    rw (if_more e.rank [] (run_pair e) c.if-e-ne0.true, length_run e, add-zero e.second)

pub returns-else-e-ne0 : goal.returns-else-e-ne0
unfolding ended_by runs_coder
returns-else-e-ne0 c =
    let e = c.args.e in
    rw (if_zero_lem e.rank [] (run_pair e) c.if-e-ne0.false, add-zero e.first, add-zero e.second)
