use Rattle.std.proofs.Common.{ap, ◌∙◌, arith}
use Rattle.parts.proofs.Along.{past-along}
use Rattle.page_walk.specs.Steps.{next}
use Rattle.page_walk.proofs.Walk.{next-along}
use Rattle.paged_runs.proofs.steps.past.Goals as goal

pub returns : goal.returns
returns c =
    let a = c.args in
    let h = c.requires in
    let g = c.well_formed.1.1.0 in
    c.next.ensures
    ∙ ap (next _ _) c.along_run.ensures
    ∙ past-along _ (next-along _ _) a.k a.c (omega arith) (omega arith) h
