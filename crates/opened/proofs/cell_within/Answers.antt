use Rattle.format.specs.Answers.{cell_says}
use Rattle.opened.proofs.Openings.{cell-beyond, cell-through}
use Rattle.opened.proofs.cell_within.Goals as goal

pub returns-then-v-eq0 : goal.returns-then-v-eq0
returns-then-v-eq0 c =
    let a = c.args in
    cell-beyond a.file.now a.v a.p.0 c.if-v-eq0.true

pub returns : goal.returns
returns c =
    let a = c.args in
    cell-through a.file.now a.v a.p.0 (cell_says c.cell_in.result) c.if-v-eq0.false c.cell_in.ensures
