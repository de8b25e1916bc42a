-- `runs::steps::past` meets its contract. Assumes nothing.
use Rattle.std.proofs.Common.{ap, ◌∙◌, arith}
use Rattle.parts.proofs.Along.{past-along}
use Rattle.run_walk.specs.Steps.{next}
use Rattle.run_walk.proofs.Walk.{next-along}
use Rattle.runs.proofs.steps.past.Goals as goal

-- `runs::steps::past` meets its contract. Assumes nothing.
pub returns : goal.returns
returns c =
    let a = c.args in
    -- the cursor's numbers fit 32 bits
    let g = c.well_formed.1.1.0.1.1 in
    c.next.ensures
    ∙ ap (next _ _) c.along_run.ensures
    ∙ past-along _ (next-along _ _) a.k a.c (omega arith) (omega arith) c.requires
